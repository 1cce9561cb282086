use Rattle.parser.proofs.Laws.{readings}
use Rattle.position.specs.Position.{coordinates_if_present}
use Rattle.position.proofs.coordinates_if_present.Goals as goal

pub returns-clause-met : goal.returns-clause-met
unfolding coordinates_if_present
returns-clause-met c = search readings depth 14

pub returns-then-present-clause-met : goal.returns-then-present-clause-met
unfolding coordinates_if_present
returns-then-present-clause-met c = search readings depth 14

pub returns-2-clause-met : goal.returns-2-clause-met
unfolding coordinates_if_present
returns-2-clause-met c = search readings depth 14
