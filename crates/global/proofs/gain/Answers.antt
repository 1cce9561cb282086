use Rattle.parser.proofs.Laws.{readings}
use Rattle.global.specs.Global.{gain}
use Rattle.global.proofs.gain.Goals as goal

pub returns : goal.returns
unfolding gain
returns c = search readings depth 14

pub returns-2 : goal.returns-2
unfolding gain
returns-2 c = search readings depth 14

pub returns-3 : goal.returns-3
unfolding gain
returns-3 c = search readings depth 14
