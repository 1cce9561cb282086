-- What global parameters and renderer data have in common, the names of each beginning with the word `p`.
use Rattle.std.specs.Prelude.{ℕ, ◌+◌, ◌-◌, ◌*◌, List, [], ◌∷◌, get_or}
use Rattle.rules.specs.Name.{third}
use Rattle.rules.specs.Leaf as leaf
use Rattle.rules.specs.Rule.{Rule, done, ◌>>=◌, ◌>>◌, pick}
use Rattle.rules.specs.Derived.{take, flag, escaped, passive_bits, passive_values, fold}

-- `self.take(name, width)?;`
unfoldable pub number : ℕ → ℕ → Rule (Unit {0})
number name w = do
  take name w
  done tt

-- `if self.flag(test)? { self.take(name, width)?; }`, and `if !self.flag(test)? { .. }`
unfoldable pub number_if : ℕ → ℕ → ℕ → Rule (Unit {0})
number_if test name w = do
  there ← flag test
  pick there (number name w) (done tt)

unfoldable pub number_unless : ℕ → ℕ → ℕ → Rule (Unit {0})
number_unless test name w = do
  there ← flag test
  pick there (done tt) (number name w)

-- `self.passive_values(p, widths)?;`, with the name of the first
unfoldable pub values : ℕ → List ℕ → Rule (Unit {0})
values name widths = passive_values name third widths

-- a payload of as many bytes as it says, the last arm of each `match`
unfoldable pub payload : ℕ → Rule (Unit {0})
payload p = do
  n ← escaped (p + leaf.bytes_minus_one) (4 ∷ 8 ∷ 16 ∷ [])
  passive_bits (p + leaf.payload) ((n + 1) * 8)

-- the two parameters of a resource and of a matrix
unfoldable pub resource_parameters : ℕ → Rule (Unit {0})
resource_parameters p = do
  escaped (p + leaf.parameter0) (1 ∷ 3 ∷ 8 ∷ [])
  escaped (p + leaf.parameter1) (1 ∷ 3 ∷ 8 ∷ [])
  done tt

-- `metadata_resource`
unfoldable pub metadata_resource : ℕ → Rule (Unit {0})
metadata_resource p = do
  take (p + leaf.type) 2
  resource_parameters p

-- the widths of a reverb's eight parameters
abbrev pub reverb_widths : List ℕ
reverb_widths = 10 ∷ 10 ∷ 8 ∷ 9 ∷ 12 ∷ 7 ∷ 7 ∷ 7 ∷ []

unfoldable pub reverb_parameter : ℕ → ℕ → Rule (Unit {0})
reverb_parameter p i = number_if (p + leaf.reverb_present + third * i) (p + leaf.reverb_encoded + third * i) (get_or reverb_widths i 0)

unfoldable pub reverb_parameters : ℕ → ℕ → ℕ → Rule (Unit {0})
reverb_parameters p from to = fold (λ i _. reverb_parameter p i) from (to - from) tt

-- `metadata_reverb`: five parameters, a flag, and three more
unfoldable pub metadata_reverb : ℕ → Rule (Unit {0})
metadata_reverb p = do
  reverb_parameters p 0 5
  flag (p + leaf.reverb_flag)
  reverb_parameters p 5 8
