-- Kind 22 of renderer data: a rendering matrix.
use Rattle.std.specs.Prelude.{ℕ, ◌+◌, ◌*◌, ◌%◌, ◌<◌, ◌≡◌, [], ◌∷◌}
use Rattle.rules.specs.Leaf as leaf
use Rattle.rules.specs.Rule.{Rule, ◌>>=◌, ◌>>◌, pick}
use Rattle.rules.specs.Derived.{◌⇒◌, choose, take, flag, passive_bits, invalid}
use Rattle.common_resources.specs.Common.{resource_parameters}

-- kind 22: how many coefficients a matrix has, by the low half of its layout and its order
abbrev pub coefficient_count : ℕ → ℕ → ℕ
coefficient_count layout order = layout % 65536 * (order + 1) * (order + 1)

-- what the functions that count them promise: the number, and that it is small
pub record Within (n m limit : ℕ) : Type 0 where
  pub same : n ≡ m
  pub small : n < limit

unfoldable pub coefficient_bits : ℕ → ℕ → Rule (Unit {0})
coefficient_bits q n = do
  float ← flag (q + leaf.float_coefficients)
  pick float
      (passive_bits (q + leaf.coefficient_bits) (n * 32))
      (do
        take (q + leaf.scale_bits) 32
        passive_bits (q + leaf.coefficient_bits) (n * 16))

unfoldable pub matrix_coefficients : ℕ → Rule (Unit {0})
matrix_coefficients q = do
  order ← take (q + leaf.order) 4
  layout ← take (q + leaf.layout_tag) 32
  coefficient_bits q (coefficient_count layout order)

unfoldable pub matrix : ℕ → Rule (Unit {0})
matrix q = do
  location ← take (q + leaf.location) 2
  choose location
      ((0 ∷ 2 ∷ []) ⇒ resource_parameters q
      ∷ (1 ∷ []) ⇒ matrix_coefficients q
      ∷ [])
      (invalid 14)
