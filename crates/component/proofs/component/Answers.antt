use Rattle.parser.proofs.Laws.{readings}
use Rattle.component.specs.Component.{component}
use Rattle.component.proofs.component.Goals as goal

pub returns : goal.returns
unfolding component
returns c = search readings depth 14

pub returns-then-reference : goal.returns-then-reference
unfolding component
returns-then-reference c = search readings depth 14

pub returns-2 : goal.returns-2
unfolding component
returns-2 c = search readings depth 14
