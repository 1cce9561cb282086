use Rattle.parser.proofs.Laws.{readings}
use Rattle.position.specs.Position.{position}
use Rattle.position.proofs.position.Goals as goal

pub returns-clause-met : goal.returns-clause-met
unfolding position
returns-clause-met c = search readings depth 14

pub returns-2-clause-met : goal.returns-2-clause-met
unfolding position
returns-2-clause-met c = search readings depth 14

pub returns-3-clause-met : goal.returns-3-clause-met
unfolding position
returns-3-clause-met c = search readings depth 14
