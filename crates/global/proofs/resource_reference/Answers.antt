use Rattle.parser.proofs.Laws.{readings}
use Rattle.global.specs.Global.{resource_reference}
use Rattle.global.proofs.resource_reference.Goals as goal

pub returns : goal.returns
unfolding resource_reference
returns c = search readings depth 14

pub returns-2 : goal.returns-2
unfolding resource_reference
returns-2 c = search readings depth 14

pub returns-3 : goal.returns-3
unfolding resource_reference
returns-3 c = search readings depth 14

pub returns-4 : goal.returns-4
unfolding resource_reference
returns-4 c = search readings depth 14
