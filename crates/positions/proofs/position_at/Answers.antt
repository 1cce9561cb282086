use Rattle.parser.proofs.Laws.{readings}
use Rattle.positions.specs.Positions.{position_at}
use Rattle.positions.proofs.position_at.Goals as goal

pub returns-then-full : goal.returns-then-full
unfolding position_at
returns-then-full c = search readings depth 14

pub returns : goal.returns
unfolding position_at
returns c = search readings depth 14
