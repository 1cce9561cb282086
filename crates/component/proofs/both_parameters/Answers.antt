use Rattle.parser.proofs.Laws.{readings}
use Rattle.component.specs.Component.{both_parameters}
use Rattle.component.proofs.both_parameters.Goals as goal

pub returns : goal.returns
unfolding both_parameters
returns c = search readings depth 14

pub returns-2 : goal.returns-2
unfolding both_parameters
returns-2 c = search readings depth 14
