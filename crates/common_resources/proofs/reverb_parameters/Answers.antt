use borrow.Author.Rules.{rules}
use Rattle.parser.proofs.Left.{left_all}
use Rattle.parser.proofs.Fold.{fold_more, fold_ended, fold_none}
use Rattle.common_resources.specs.Common.{reverb_parameters}
use Rattle.common_resources.proofs.reverb_parameters.Goals as goal

pub loop-i-init : goal.loop-i-init
unfolding reverb_parameters
loop-i-init c = left_all

pub returns-in-loop-i : goal.returns-in-loop-i
returns-in-loop-i c = fold_ended _ _ _ _ c.loop-i.invariant c.loop-i-test.true c.reverb_parameter.ensures (search rules)

pub loop-i-preserved : goal.loop-i-preserved
loop-i-preserved c = fold_more _ _ _ _ c.loop-i.invariant c.loop-i-test.true c.reverb_parameter.ensures (search rules)

pub returns : goal.returns
returns c = fold_none _ _ _ _ c.loop-i.invariant c.loop-i-test.false
