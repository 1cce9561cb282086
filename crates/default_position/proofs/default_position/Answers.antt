use Rattle.parser.proofs.Laws.{readings}
use Rattle.default_position.specs.DefaultPosition.{default_position}
use Rattle.default_position.proofs.default_position.Goals as goal

pub returns : goal.returns
unfolding default_position
returns c = let read = rw c.default-shape.ensures at c.position.ensures.met in search readings depth 14

pub returns-2 : goal.returns-2
unfolding default_position
returns-2 c = let read = rw c.default-shape.ensures at c.position.ensures.met in search readings depth 14
