use mathlib.Core.Path.{◌≡◌}
use lib.ListN.{take}
use Rattle.lent.proofs.write_back.Given as goal

-- the lent shapes have the first i of the array
abbrev pub invariant-loop-i : goal.invariant-loop-i
invariant-loop-i l = take l.i l.array ≡ take l.i l.shapes
