use Rattle.parser.proofs.Laws.{readings}
use Rattle.global.specs.Global.{predefined_index}
use Rattle.global.proofs.predefined_index.Goals as goal

pub returns : goal.returns
unfolding predefined_index
returns c = search readings depth 14

pub returns-2 : goal.returns-2
unfolding predefined_index
returns-2 c = search readings depth 14
