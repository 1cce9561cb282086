use Rattle.parser.proofs.Laws.{readings}
use Rattle.common_resources.specs.Common.{metadata_resource}
use Rattle.common_resources.proofs.metadata_resource.Goals as goal

pub returns : goal.returns
unfolding metadata_resource
returns c = search readings depth 14

pub returns-2 : goal.returns-2
unfolding metadata_resource
returns-2 c = search readings depth 14
