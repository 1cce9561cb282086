use Rattle.parser.proofs.Laws.{readings, questions, position_is}
use Rattle.parser.proofs.Steps.{ends_now}
use Rattle.headphones.specs.Headphones.{headphone_channels}
use Rattle.headphones.proofs.headphone_channels.Goals as goal

pub returns : goal.returns
unfolding headphone_channels
returns c = position_is _ c.position-start.ensures (search (readings, questions) depth 14)

pub returns-then-bits-n : goal.returns-then-bits-n
unfolding headphone_channels
returns-then-bits-n c = position_is _ c.position-start.ensures (search (readings, questions, ends_now) depth 14)

pub returns-2 : goal.returns-2
unfolding headphone_channels
returns-2 c = position_is _ c.position-start.ensures (search (readings, questions) depth 14)
