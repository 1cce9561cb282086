use mathlib.Core.Path.{refl}
use borrow.Author.Tests.{le-leb, lt-leb}
use Rattle.parser.specs.Begun.{entered}
use Rattle.parser.proofs.Laws.{readings, demand_kept, demand_broken, own_kept, own_broken}
use Rattle.parser.proofs.Steps.{ends_now}
use Rattle.parser.proofs.Parser.entry.Goals as goal

pub returns-then-n-gt-BYTES : goal.returns-then-n-gt-BYTES
unfolding entered
returns-then-n-gt-BYTES c = demand_broken _ _ (lt-leb _ _ c.if-n-gt-BYTES.true) (ends_now refl)

pub returns-in-Err : goal.returns-in-Err
unfolding entered
returns-in-Err c = demand_kept _ _ (le-leb _ _ c.if-n-gt-BYTES.false) (own_broken _ c.in-Err.is (ends_now refl))

pub returns-in-Err-set_end : goal.returns-in-Err-set_end
unfolding entered
returns-in-Err-set_end c = demand_kept _ _ (le-leb _ _ c.if-n-gt-BYTES.false) (own_kept _ c.in-Ok.is (search readings))

pub returns : goal.returns
unfolding entered
returns c = demand_kept _ _ (le-leb _ _ c.if-n-gt-BYTES.false) (own_kept _ c.in-Ok.is (search readings))
