use Rattle.parser.proofs.Laws.{readings}
use Rattle.headphones.specs.Headphones.{padded_channels}
use Rattle.headphones.proofs.padded_channels.Goals as goal

pub returns : goal.returns
unfolding padded_channels
returns c = search readings depth 14

pub returns-2 : goal.returns-2
unfolding padded_channels
returns-2 c = search readings depth 14
