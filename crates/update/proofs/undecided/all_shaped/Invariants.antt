use mathlib.Core.Path.{◌≡◌}
use lib.ListN.{drop}
use Rattle.update.specs.Update.{all_shaped}
use Rattle.update.proofs.undecided.all_shaped.Given as goal

-- what is said of all shapes is what is said of those from `shape-index` on
abbrev pub invariant-loop-shape : goal.invariant-loop-shape
invariant-loop-shape l = all_shaped (drop l.shape-index l.shapes) ≡ all_shaped l.shapes
