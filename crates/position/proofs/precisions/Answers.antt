use Rattle.parser.proofs.Laws.{readings}
use Rattle.position.specs.Position.{precisions}
use Rattle.position.proofs.precisions.Goals as goal

pub returns-clause-met : goal.returns-clause-met
unfolding precisions
returns-clause-met c = search readings depth 14

pub returns-2-clause-met : goal.returns-2-clause-met
unfolding precisions
returns-2-clause-met c = search readings depth 14

pub returns-3-clause-met : goal.returns-3-clause-met
unfolding precisions
returns-3-clause-met c = search readings depth 14
