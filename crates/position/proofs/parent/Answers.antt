use Rattle.parser.proofs.Laws.{readings}
use Rattle.position.specs.Position.{parent}
use Rattle.position.proofs.parent.Goals as goal

pub returns-clause-met : goal.returns-clause-met
unfolding parent
returns-clause-met c = search readings depth 14

pub returns-then-present-clause-met : goal.returns-then-present-clause-met
unfolding parent
returns-then-present-clause-met c = search readings depth 14

pub returns-2-clause-met : goal.returns-2-clause-met
unfolding parent
returns-2-clause-met c = search readings depth 14
