use mathlib.Core.Path.{◌≡◌}
use lib.ListN.{take}
use Rattle.validation.specs.Validation.{parents}
use Rattle.validation.proofs.parents_of.Given as goal

-- the places passed hold the parents
abbrev pub invariant-loop-i : goal.invariant-loop-i
invariant-loop-i l = take l.i l.out ≡ take l.i (parents l.shapes)
