use Rattle.parser.proofs.Laws.{readings}
use Rattle.radiation.specs.Radiation.{resource_index}
use Rattle.radiation.proofs.resource_index.Goals as goal

pub returns : goal.returns
unfolding resource_index
returns c = search readings depth 14

pub returns-2 : goal.returns-2
unfolding resource_index
returns-2 c = search readings depth 14
