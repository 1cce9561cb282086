use Rattle.parser.proofs.Laws.{readings}
use Rattle.radiation.specs.Radiation.{coefficients}
use Rattle.radiation.proofs.coefficients.Goals as goal

pub returns : goal.returns
unfolding coefficients
returns c = search readings depth 14

pub returns-2 : goal.returns-2
unfolding coefficients
returns-2 c = search readings depth 14

pub returns-3 : goal.returns-3
unfolding coefficients
returns-3 c = search readings depth 14
