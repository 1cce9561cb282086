use Rattle.parser.proofs.Laws.{readings}
use Rattle.position.specs.Position.{dynamics}
use Rattle.position.proofs.dynamics.Goals as goal

pub returns : goal.returns
unfolding dynamics
returns c = search readings depth 14

pub returns-2 : goal.returns-2
unfolding dynamics
returns-2 c = search readings depth 14

pub returns-3 : goal.returns-3
unfolding dynamics
returns-3 c = search readings depth 14
