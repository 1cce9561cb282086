use Rattle.parser.proofs.Laws.{readings}
use Rattle.common_resources.specs.Common.{resource_parameters}
use Rattle.common_resources.proofs.resource_parameters.Goals as goal

pub returns : goal.returns
unfolding resource_parameters
returns c = search readings depth 14

pub returns-2 : goal.returns-2
unfolding resource_parameters
returns-2 c = search readings depth 14

pub returns-3 : goal.returns-3
unfolding resource_parameters
returns-3 c = search readings depth 14
