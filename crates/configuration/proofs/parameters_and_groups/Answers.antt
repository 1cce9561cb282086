use Rattle.parser.proofs.Laws.{readings}
use Rattle.configuration.specs.Configuration.{parameters_and_groups}
use Rattle.configuration.proofs.parameters_and_groups.Goals as goal

pub returns : goal.returns
unfolding parameters_and_groups
returns c = search readings depth 14

pub returns-2 : goal.returns-2
unfolding parameters_and_groups
returns-2 c = search readings depth 14
