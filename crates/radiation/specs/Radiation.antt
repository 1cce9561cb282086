-- `renderer_radiation`: the field rules of a radiation pattern, whose names begin with the word `p`.
use Rattle.std.specs.Prelude.{ℕ, ◌+◌, ◌*◌, List, [], ◌∷◌, get_or}
use Rattle.rules.specs.Name.{third}
use Rattle.rules.specs.Leaf as leaf
use Rattle.rules.specs.Rule.{Rule, done, ◌>>=◌, ◌>>◌, pick}
use Rattle.rules.specs.Derived.{◌⇒◌, choose, take, flag, escaped, passive_bits, invalid, fold}
use Rattle.common_resources.specs.Common.{number, payload, metadata_resource}
use Rattle.bands.specs.Bands.{renderer_precision, count_plus_one, bands}

-- pattern 3
unfoldable pub gain_and_angle : ℕ → ℕ → Rule (Unit {0})
gain_and_angle p width = do
  unity ← flag (p + leaf.unity)
  pick unity
      (done tt)
      (do
        renderer_precision (p + leaf.gain_encoded) width
        number (p + leaf.angle_encoded) 9)

-- the `match` on the pattern
unfoldable pub pattern : ℕ → ℕ → ℕ → Rule (Unit {0})
pattern p kind width =
    choose kind
    ((0 ∷ []) ⇒ done tt
    ∷ (1 ∷ 2 ∷ []) ⇒ bands p kind width
    ∷ (3 ∷ []) ⇒ gain_and_angle p width
    ∷ [])
    (payload p)

abbrev pub precision_widths : List ℕ
precision_widths = 8 ∷ 16 ∷ 32 ∷ 64 ∷ []

-- `[8, 16, 32, 64][self.take(precision)? as usize]`
unfoldable pub precision_width : ℕ → Rule ℕ
precision_width p = do
  v ← take (p + leaf.precision) 2
  done (get_or precision_widths v 0)

unfoldable pub pattern_of_precision : ℕ → Rule (Unit {0})
pattern_of_precision p = do
  width ← precision_width p
  kind ← take (p + leaf.pattern) 5
  pattern p kind width

-- `entries += self.esc(sizes_minus_one[i])? as usize + 1`, from none on
unfoldable pub size : ℕ → ℕ → ℕ → Rule ℕ
size p i entries = do
  n ← escaped (p + leaf.sizes_minus_one + third * i) (6 ∷ 9 ∷ 12 ∷ [])
  done (entries + (n + 1))

unfoldable pub sizes : ℕ → ℕ → Rule ℕ
sizes p n = fold (size p) 0 n 0

unfoldable pub coefficients : ℕ → Rule (Unit {0})
coefficients p = do
  n ← count_plus_one p 6
  entries ← sizes p n
  passive_bits (p + leaf.coefficient_bits) (entries * 32)

unfoldable pub resource_index : ℕ → Rule (Unit {0})
resource_index p = do
  metadata_resource (p + leaf.resource)
  number (p + leaf.index) 10

-- `renderer_radiation`
unfoldable pub renderer_radiation : ℕ → Rule (Unit {0})
renderer_radiation p = do
  kind ← take (p + leaf.type) 3
  choose kind
      ((0 ∷ []) ⇒ done tt
      ∷ (1 ∷ []) ⇒ number (p + leaf.index) 10
      ∷ (2 ∷ []) ⇒ resource_index p
      ∷ (3 ∷ []) ⇒ pattern_of_precision p
      ∷ (4 ∷ []) ⇒ coefficients p
      ∷ [])
      (invalid 15)
