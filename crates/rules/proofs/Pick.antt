-- What holds of both sides of a choice holds of it.
use mathlib.Core.Path.{◌≡◌, refl}
use mathlib.Core.Bool.{Bool, true, false}
use Rattle.rules.specs.Rule.{pick}

pub by_pick : {X : Type 0} (P : X → Type 0) (b : Bool) (x y : X) → (b ≡ true → P x) → (b ≡ false → P y) → P (pick b x y)
by_pick P true x y g h = g refl
by_pick P false x y g h = h refl
