use Rattle.parser.proofs.Laws.{readings}
use Rattle.radiation.specs.Radiation.{size}
use Rattle.radiation.proofs.size.Goals as goal

pub returns-clause-met : goal.returns-clause-met
unfolding size
returns-clause-met c = search readings depth 14

pub returns-2-clause-met : goal.returns-2-clause-met
unfolding size
returns-2-clause-met c = search readings depth 14
