use Rattle.parser.proofs.Laws.{readings}
use Rattle.positions.specs.Positions.{updated_position}
use Rattle.positions.proofs.updated_position.Goals as goal

pub returns : goal.returns
unfolding updated_position
returns c = search readings depth 14

pub returns-then-updated : goal.returns-then-updated
unfolding updated_position
returns-then-updated c = search readings depth 14

pub returns-2 : goal.returns-2
unfolding updated_position
returns-2 c = search readings depth 14
