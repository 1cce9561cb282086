use Prim.Native.Nat.{◌-◌}
use mathlib.Core.Path.{◌≡◌}
use lib.ListN.{length}
use Rattle.ranks.specs.Rank.{judge, largest_up_to, verdict}
use Rattle.ranks.specs.KnownRanks.{KnownRanks}
use Rattle.ranks.proofs.judge.Given as goal

-- the number is that by the positions after `i`, and the largest rank that of those up to it
abbrev pub invariant-loop-i : goal.invariant-loop-i
invariant-loop-i l = record {
  known : KnownRanks l.parents l.known;
  number : judge l.parents (length l.parents - l.i) l.i ≡ verdict l.parents;
  deepest : l.deepest ≡ largest_up_to l.parents l.i;
}
