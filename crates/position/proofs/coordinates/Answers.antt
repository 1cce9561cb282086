use Rattle.parser.proofs.Laws.{readings}
use Rattle.position.specs.Position.{coordinates}
use Rattle.position.proofs.coordinates.Goals as goal

pub returns-clause-met : goal.returns-clause-met
unfolding coordinates
returns-clause-met c = search readings depth 14

pub returns-2-clause-met : goal.returns-2-clause-met
unfolding coordinates
returns-2-clause-met c = search readings depth 14

pub returns-3-clause-met : goal.returns-3-clause-met
unfolding coordinates
returns-3-clause-met c = search readings depth 14

pub returns-4-clause-met : goal.returns-4-clause-met
unfolding coordinates
returns-4-clause-met c = search readings depth 14
