use Rattle.parser.proofs.Laws.{readings}
use Rattle.radiation.specs.Radiation.{gain_and_angle}
use Rattle.radiation.proofs.gain_and_angle.Goals as goal

pub returns : goal.returns
unfolding gain_and_angle
returns c = search readings depth 14

pub returns-then-unity : goal.returns-then-unity
unfolding gain_and_angle
returns-then-unity c = search readings depth 14

pub returns-2 : goal.returns-2
unfolding gain_and_angle
returns-2 c = search readings depth 14

pub returns-3 : goal.returns-3
unfolding gain_and_angle
returns-3 c = search readings depth 14
