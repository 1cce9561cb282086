use Rattle.parser.proofs.Laws.{readings}
use Rattle.global.specs.Global.{mask}
use Rattle.global.proofs.mask.Goals as goal

pub returns : goal.returns
unfolding mask
returns c = search readings depth 14

pub returns-2 : goal.returns-2
unfolding mask
returns-2 c = search readings depth 14
