use mathlib.Core.Path.{refl, ◌∙◌}
use native.Mathlib.Omega.{arith}
use native.Mathlib.Nat.{sub-zero}
use borrow.Author.Rules.{rules}
use Rattle.ranks.specs.Rank.{largest_up_to, verdict}
use Rattle.ranks.proofs.Chains.{judge_on, judge_out, judge_end, chain_refuses}
use Rattle.ranks.proofs.Largest.{one_more, all}
use Rattle.ranks.proofs.judge.Goals as goal

pub loop-i-init : goal.loop-i-init
unfolding verdict largest_up_to
loop-i-init c = record { known = c.requires; number = rw sub-zero; deepest = refl }

pub returns-in-loop-i-clause-number : goal.returns-in-loop-i-clause-number
returns-in-loop-i-clause-number c = judge_out _ _ c.rank.ensures.rank (search rules) c.loop-i-test.true ∙ c.loop-i.invariant.number

pub returns-in-loop-i-clause-refuses : goal.returns-in-loop-i-clause-refuses
returns-in-loop-i-clause-refuses c = chain_refuses _ _ c.rank.ensures.rank (search rules)

pub loop-i-preserved : goal.loop-i-preserved
loop-i-preserved c =
    let before = c.loop-i.invariant in
    record {
      known = c.rank.ensures.known;
      number = search judge_on;
      deepest = c.larger-deepest.ensures ∙ one_more _ _ before.deepest c.rank.ensures.rank (search rules);
    }

pub returns-clause-number : goal.returns-clause-number
returns-clause-number c = judge_end _ _ c.loop-i-test.false ∙ c.loop-i.invariant.number

pub returns-clause-deepest : goal.returns-clause-deepest
returns-clause-deepest c = all _ c.loop-i.invariant.deepest (omega arith)
