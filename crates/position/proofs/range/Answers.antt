use Rattle.parser.proofs.Laws.{readings}
use Rattle.position.specs.Position.{range}
use Rattle.position.proofs.range.Goals as goal

pub returns : goal.returns
unfolding range
returns c = search readings depth 14

pub returns-then-present : goal.returns-then-present
unfolding range
returns-then-present c = search readings depth 14

pub returns-in-Ok-tri-2 : goal.returns-in-Ok-tri-2
unfolding range
returns-in-Ok-tri-2 c = search readings depth 14

pub returns-else-present : goal.returns-else-present
unfolding range
returns-else-present c = search readings depth 14
