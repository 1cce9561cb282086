use Rattle.parser.proofs.Laws.{readings}
use Rattle.global.specs.Global.{predefined}
use Rattle.global.proofs.predefined.Goals as goal

pub returns : goal.returns
unfolding predefined
returns c = search readings depth 14

pub returns-then-predefined : goal.returns-then-predefined
unfolding predefined
returns-then-predefined c = search readings depth 14

pub returns-2 : goal.returns-2
unfolding predefined
returns-2 c = search readings depth 14
