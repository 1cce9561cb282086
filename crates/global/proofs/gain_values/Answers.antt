use Rattle.parser.proofs.Laws.{readings}
use Rattle.global.specs.Global.{gain_values}
use Rattle.global.proofs.gain_values.Goals as goal

pub returns : goal.returns
unfolding gain_values
returns c = search readings depth 14

pub returns-then-cartesian : goal.returns-then-cartesian
unfolding gain_values
returns-then-cartesian c = search readings depth 14

pub returns-2 : goal.returns-2
unfolding gain_values
returns-2 c = search readings depth 14
