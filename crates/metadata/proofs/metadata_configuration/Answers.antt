use Rattle.parser.proofs.Laws.{readings}
use Rattle.metadata.specs.Metadata.{metadata_configuration}
use Rattle.metadata.proofs.metadata_configuration.Goals as goal

pub returns : goal.returns
unfolding metadata_configuration
returns c = search readings depth 14

pub returns-2 : goal.returns-2
unfolding metadata_configuration
returns-2 c = search readings depth 14

pub returns-3 : goal.returns-3
unfolding metadata_configuration
returns-3 c = search readings depth 14
