use Rattle.parser.proofs.Laws.{readings}
use Rattle.component.specs.Component.{channels}
use Rattle.component.proofs.channels.Goals as goal

pub returns : goal.returns
unfolding channels
returns c = search readings depth 14

pub returns-2 : goal.returns-2
unfolding channels
returns-2 c = search readings depth 14

pub returns-then-contiguous : goal.returns-then-contiguous
unfolding channels
returns-then-contiguous c = search readings depth 14

pub returns-3 : goal.returns-3
unfolding channels
returns-3 c = search readings depth 14
