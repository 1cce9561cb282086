-- The coordinates of a position: how many bits each has, how many there are, and their fields.
use Rattle.std.specs.Prelude.{ℕ, ◌+◌, ◌-◌, List, [], ◌∷◌, map, Bool, ◌&&◌, eqb, take as take_n}
use Rattle.rules.specs.Name.{third}
use Rattle.rules.specs.Leaf as leaf
use Rattle.rules.specs.Rule.{Rule, pick}
use Rattle.rules.specs.Derived.{passive_values}

-- `base + precision - if delta { 4 } else { 0 }`
abbrev pub width_of : ℕ → ℕ → Bool → ℕ
width_of base precision delta = base + precision - pick delta 4 0

-- `if shape.polar { [7, 6, 5] } else { [6; 3] }`
abbrev pub bases : Bool → List ℕ
bases polar = pick polar (7 ∷ 6 ∷ 5 ∷ []) (6 ∷ 6 ∷ 6 ∷ [])

-- how many of them are read: not the third polar one of a delta at precision 0
abbrev pub how_many : Bool → ℕ → Bool → ℕ
how_many polar precision delta = pick (delta && (polar && eqb precision 0)) 2 3

abbrev pub widths_of : List ℕ → ℕ → Bool → List ℕ
widths_of bases precision delta = map (λ base. width_of base precision delta) bases

unfoldable pub coordinate_values : ℕ → Bool → ℕ → Bool → Rule (Unit {0})
coordinate_values p polar precision delta =
    passive_values (p + leaf.position_encoded) third (take_n (how_many polar precision delta) (widths_of (bases polar) precision delta))
