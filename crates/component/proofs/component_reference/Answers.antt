use Rattle.parser.proofs.Laws.{readings}
use Rattle.component.specs.Component.{component_reference}
use Rattle.component.proofs.component_reference.Goals as goal

pub returns : goal.returns
unfolding component_reference
returns c = search readings depth 14

pub returns-2 : goal.returns-2
unfolding component_reference
returns-2 c = search readings depth 14

pub returns-3 : goal.returns-3
unfolding component_reference
returns-3 c = search readings depth 14
