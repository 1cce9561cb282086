use mathlib.Core.Path.{refl, sym, ◌∙◌}
use native.Mathlib.Omega.{arith}
use borrow.Author.Tests.{leb-true}
use Rattle.rules.specs.Derived.{count}
use Rattle.rules.proofs.Laws.{both}
use Rattle.parser.proofs.Laws.{first_remaining, demand_kept, demand_broken, last}
use Rattle.parser.proofs.Steps.{ends_now}
use Rattle.parser.proofs.Parser.count.Goals as goal

pub returns-then-fits-clause-met : goal.returns-then-fits-clause-met
unfolding count
returns-then-fits-clause-met c = first_remaining _ (demand_kept _ _ (sym c.fits.ensures ∙ c.if-fits.true) last)

pub returns-then-fits-clause-small : goal.returns-then-fits-clause-small
returns-then-fits-clause-small c =
    (omega (arith, leb-true c.args.n 4096 (both _ (sym c.fits.ensures ∙ c.if-fits.true)).0), omega arith)

pub returns-clause-met : goal.returns-clause-met
unfolding count
returns-clause-met c = first_remaining _ (demand_broken _ _ (sym c.fits.ensures ∙ c.if-fits.false) (ends_now refl))
