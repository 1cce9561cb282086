use Prim.Native.Nat.{◌-◌}
use mathlib.Core.Path.{◌≡◌}
use lib.ListN.{length}
use Rattle.text.proofs.Writes.{Left}
use Rattle.ranks.specs.Rank.{largest_up_to}
use Rattle.ranks.specs.KnownRanks.{KnownRanks}
use Rattle.show_lines.specs.Lines.{position_lines}
use Rattle.show_lines.proofs.put_positions.Given as goal

-- the lines of the positions after `i` are still to be put, and the largest rank is that in those before them
abbrev pub invariant-loop-i : goal.invariant-loop-i
invariant-loop-i l = record {
  known : KnownRanks l.parents l.known;
  lines : Left (position_lines l.parents (length l.parents) 0) l.initial.writer (position_lines l.parents (length l.parents - l.i) l.i) l.writer;
  deepest : l.deepest ≡ largest_up_to l.parents l.i;
}
