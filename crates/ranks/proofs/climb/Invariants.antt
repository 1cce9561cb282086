use Rattle.ranks.proofs.Walks.{Walk}
use Rattle.ranks.proofs.climb.Given as goal

-- so many positions of the chain are passed
abbrev pub invariant-loop-passed : goal.invariant-loop-passed
invariant-loop-passed l = Walk l.parents l.first l.passed l.at
