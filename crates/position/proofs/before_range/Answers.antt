use Rattle.parser.proofs.Laws.{readings}
use Rattle.position.specs.Position.{before_range}
use Rattle.position.proofs.before_range.Goals as goal

pub returns-clause-met : goal.returns-clause-met
unfolding before_range
returns-clause-met c = search readings depth 14

pub returns-2-clause-met : goal.returns-2-clause-met
unfolding before_range
returns-2-clause-met c = search readings depth 14
