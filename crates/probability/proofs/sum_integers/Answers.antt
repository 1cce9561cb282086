use Rattle.std.proofs.lemmas.Grind.{common_steps}
use native.Mathlib.Omega.{arith}
use borrow.Author.Rules.{rules}
use Rattle.parser.proofs.Fold.{fold_more, fold_ended, fold_none}
use Rattle.probability.proofs.sum_integers.Goals as goal

pub returns-in-loop-j : goal.returns-in-loop-j
returns-in-loop-j c = fold_ended _ _ _ _ c.loop-j.invariant.left c.loop-j-test.true c.add_integer.ensures.met (search rules)

pub loop-j-preserved : goal.loop-j-preserved
loop-j-preserved c = record {
  small = grind (arith, common_steps);
  left = fold_more _ _ _ _ c.loop-j.invariant.left c.loop-j-test.true c.add_integer.ensures.met (search rules);
}

pub returns : goal.returns
returns c = fold_none _ _ _ _ c.loop-j.invariant.left c.loop-j-test.false
