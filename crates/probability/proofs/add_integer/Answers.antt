use Rattle.parser.proofs.Laws.{readings}
use Rattle.probability.specs.Probability.{add_integer}
use Rattle.probability.proofs.add_integer.Goals as goal

pub returns-clause-met : goal.returns-clause-met
unfolding add_integer
returns-clause-met c = search readings depth 14

pub returns-2-clause-met : goal.returns-2-clause-met
unfolding add_integer
returns-2-clause-met c = search readings depth 14
