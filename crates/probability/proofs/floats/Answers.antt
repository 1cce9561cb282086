use Rattle.parser.proofs.Laws.{readings}
use Rattle.parser.proofs.Steps.{ends_now}
use Rattle.rules.specs.Derived.{demand}
use Rattle.probability.specs.Probability.{floats}
use Rattle.probability.proofs.floats.Goals as goal

pub returns : goal.returns
unfolding floats demand
returns c = search readings depth 14

pub returns-then-sum : goal.returns-then-sum
unfolding floats demand
returns-then-sum c = search readings depth 14

pub returns-2 : goal.returns-2
unfolding floats demand
returns-2 c = search (readings, ends_now) depth 14
