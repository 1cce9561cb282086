use Rattle.parser.proofs.Laws.{readings}
use Rattle.position.specs.Position.{changed}
use Rattle.position.proofs.changed.Goals as goal

pub returns-then-full : goal.returns-then-full
unfolding changed
returns-then-full c = search readings depth 14

pub returns-then-dynamic : goal.returns-then-dynamic
unfolding changed
returns-then-dynamic c = search readings depth 14

pub returns : goal.returns
unfolding changed
returns c = search readings depth 14
