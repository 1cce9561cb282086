use Rattle.parser.proofs.Laws.{readings}
use Rattle.bands.specs.Bands.{count_plus_one}
use Rattle.bands.proofs.count_plus_one.Goals as goal

pub returns-clause-met : goal.returns-clause-met
unfolding count_plus_one
returns-clause-met c = search readings depth 14

pub returns-2-clause-met : goal.returns-2-clause-met
unfolding count_plus_one
returns-2-clause-met c = search readings depth 14
