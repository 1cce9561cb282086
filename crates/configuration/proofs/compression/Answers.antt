use Rattle.parser.proofs.Laws.{readings}
use Rattle.configuration.specs.Configuration.{compression}
use Rattle.configuration.proofs.compression.Goals as goal

pub returns : goal.returns
unfolding compression
returns c = search readings depth 14

pub returns-2 : goal.returns-2
unfolding compression
returns-2 c = search readings depth 14

pub returns-3 : goal.returns-3
unfolding compression
returns-3 c = search readings depth 14
