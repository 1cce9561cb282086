use Rattle.parser.proofs.Laws.{readings}
use Rattle.position.specs.Position.{rotation}
use Rattle.position.proofs.rotation.Goals as goal

pub returns : goal.returns
unfolding rotation
returns c = search readings depth 14

pub returns-then-present : goal.returns-then-present
unfolding rotation
returns-then-present c = search readings depth 14

pub returns-then-present-2 : goal.returns-then-present-2
unfolding rotation
returns-then-present-2 c = search readings depth 14

pub returns-2 : goal.returns-2
unfolding rotation
returns-2 c = search readings depth 14
