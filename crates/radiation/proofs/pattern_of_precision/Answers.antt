use Rattle.parser.proofs.Laws.{readings}
use Rattle.radiation.specs.Radiation.{pattern_of_precision}
use Rattle.radiation.proofs.pattern_of_precision.Goals as goal

pub returns : goal.returns
unfolding pattern_of_precision
returns c = search readings depth 14

pub returns-2 : goal.returns-2
unfolding pattern_of_precision
returns-2 c = search readings depth 14

pub returns-3 : goal.returns-3
unfolding pattern_of_precision
returns-3 c = search readings depth 14
