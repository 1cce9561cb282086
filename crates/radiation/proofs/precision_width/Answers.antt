use Rattle.parser.proofs.Laws.{readings}
use Rattle.radiation.specs.Radiation.{precision_width}
use Rattle.radiation.proofs.precision_width.Goals as goal

pub returns-clause-met : goal.returns-clause-met
unfolding precision_width
returns-clause-met c = search readings depth 14

pub returns-2-clause-met : goal.returns-2-clause-met
unfolding precision_width
returns-2-clause-met c = search readings depth 14
