use Rattle.parser.proofs.Laws.{readings}
use Rattle.position.specs.Position.{header}
use Rattle.position.proofs.header.Goals as goal

pub returns-then-full-clause-met : goal.returns-then-full-clause-met
unfolding header
returns-then-full-clause-met c = search readings depth 14

pub returns-then-full-2-clause-met : goal.returns-then-full-2-clause-met
unfolding header
returns-then-full-2-clause-met c = search readings depth 14

pub returns-clause-met : goal.returns-clause-met
unfolding header
returns-clause-met c = search readings depth 14
