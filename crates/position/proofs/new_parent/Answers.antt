use Rattle.parser.proofs.Laws.{readings}
use Rattle.position.specs.Position.{new_parent}
use Rattle.position.proofs.new_parent.Goals as goal

pub returns-clause-met : goal.returns-clause-met
unfolding new_parent
returns-clause-met c = search readings depth 14

pub returns-then-absolute-clause-met : goal.returns-then-absolute-clause-met
unfolding new_parent
returns-then-absolute-clause-met c = search readings depth 14

pub returns-2-clause-met : goal.returns-2-clause-met
unfolding new_parent
returns-2-clause-met c = search readings depth 14

pub returns-3-clause-met : goal.returns-3-clause-met
unfolding new_parent
returns-3-clause-met c = search readings depth 14
