use Prim.Native.Nat.{◌-◌}
use Rattle.ranks.specs.Rank.{HasRank}
use Rattle.ranks.specs.KnownRanks.{KnownRanks}
use Rattle.ranks.proofs.mark.Given as goal

-- `at` has what is left of the rank
abbrev pub invariant-loop-passed : goal.invariant-loop-passed
invariant-loop-passed l = record { known : KnownRanks l.parents l.known; left : HasRank l.parents l.at (l.rank - l.passed) }
