use Rattle.parser.proofs.Laws.{readings}
use Rattle.parser.proofs.Steps.{ends_now}
use Rattle.rules.specs.Derived.{demand}
use Rattle.probability.specs.Probability.{integers}
use Rattle.probability.proofs.integers.Goals as goal

pub returns : goal.returns
unfolding integers demand
returns c = search readings depth 14

pub returns-then-sum-eq0 : goal.returns-then-sum-eq0
unfolding integers demand
returns-then-sum-eq0 c = search (readings, ends_now) depth 14

pub returns-2 : goal.returns-2
unfolding integers demand
returns-2 c = search readings depth 14
