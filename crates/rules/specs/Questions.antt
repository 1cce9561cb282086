-- The questions of a call that reads no bits, in the order in which they are asked.
use Rattle.std.specs.Prelude.{ℕ, Bool, List, [], ◌∷◌, eqb}
use Rattle.rules.specs.Rule.{pick}

-- the number of a question, 0 if it is met
abbrev pub asks : ℕ → Bool → ℕ
asks number met = pick met 0 number

-- the first that is not met decides: its number, or 0 if all are met
unfoldable pub first_unmet : List ℕ → ℕ
first_unmet [] = 0
first_unmet (n ∷ ns) = pick (eqb n 0) (first_unmet ns) n
