use Prim.Native.Nat.{◌≤◌}
use native.Mathlib.Omega.{arith}
use types.Run.{OneOf}
use mathlib.Core.Path.{refl}
use mathlib.Core.List.{[], ◌∷◌}
use Rattle.parser.proofs.Laws.{readings}
use Rattle.parser.proofs.Choice.{chosen, chosen_last, past, choices}
use Rattle.radiation.specs.Radiation.{pattern}
use Rattle.radiation.proofs.pattern.Goals as goal

pub returns-in-0 : goal.returns-in-0
unfolding pattern
returns-in-0 c = search (readings, choices) depth 14

pub returns-in-1 : goal.returns-in-1
unfolding pattern
returns-in-1 c = rw c.in-1.is (chosen _ _ refl c.bands.ensures)

pub returns-in-2 : goal.returns-in-2
unfolding pattern
returns-in-2 c = rw c.in-2.is (chosen _ _ refl c.bands-in-2.ensures)

pub returns-in-3 : goal.returns-in-3
unfolding pattern
returns-in-3 c = search (readings, choices) depth 14

pub returns-in_default : goal.returns-in_default
unfolding pattern
returns-in_default c =
    let zero : OneOf (0 ∷ []) c.args.kind → ⊥ = assumption in
    let three : OneOf (3 ∷ []) c.args.kind → ⊥ = assumption in
    let more : 3 ≤ c.args.kind = omega arith in
    let bands = past (1 ∷ 2 ∷ []) 3 _ (refl, (refl, tt)) more in
    chosen_last _ _ _ (((tt, zero), bands), three) c.payload.ensures
