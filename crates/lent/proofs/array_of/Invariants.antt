use mathlib.Core.Path.{◌≡◌}
use lib.ListN.{length, take}
use Rattle.lent.proofs.array_of.Given as goal

-- the array has the first i shapes
abbrev pub invariant-loop-i : goal.invariant-loop-i
invariant-loop-i l = record { long : length l.array ≡ 63; same : take l.i l.array ≡ take l.i l.shapes }
