use Rattle.parser.proofs.Laws.{readings}
use Rattle.component.specs.Component.{metadata_number}
use Rattle.component.proofs.metadata_number.Goals as goal

pub returns : goal.returns
unfolding metadata_number
returns c = search readings depth 14

pub returns-2 : goal.returns-2
unfolding metadata_number
returns-2 c = search readings depth 14
