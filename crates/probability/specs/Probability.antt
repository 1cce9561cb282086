-- The probabilities of a table with `n` entries, whose names begin with `q`: what `metadata_compression` reads unless
-- the type is 3. The Rust has one loop that asks for the precision in each turn, which never changes in it.
use Rattle.std.specs.Prelude.{ℕ, ◌+◌, ◌*◌, Bool, not, ◌&&◌, eqb, Float}
use Rattle.std.specs.Float.{binary32}
use Rattle.std.specs.Float.Ieee.{of_bits, add, lt, eq}
use Rattle.std.specs.Float.Ieee.Scale.{finite}
use Rattle.rules.specs.Name.{third}
use Rattle.rules.specs.Leaf as leaf
use Rattle.rules.specs.Rule.{Rule, done, ends, refused, ◌>>=◌, pick}
use Rattle.rules.specs.Derived.{take, fold, demand}

-- `f32::from_bits`
abbrev pub from_bits : ℕ → Float
from_bits raw = of_bits binary32 raw

-- finite, and not below zero: -0 passes
abbrev pub is_probability : Float → Bool
is_probability x = finite x && not (lt x (from_bits 0))

-- one value at precision 32, added to those before it in binary32
unfoldable pub add_float : ℕ → ℕ → Float → Rule Float
add_float q j sum = do
  raw ← take (q + leaf.values_encoded + third * j) 32
  pick (is_probability (from_bits raw)) (done (add binary32 sum (from_bits raw))) (ends (refused 22))

-- all of them: in order they come to exactly 1
unfoldable pub floats : ℕ → ℕ → Rule (Unit {0})
floats q n = do
  sum ← fold (add_float q) 0 n (from_bits 0)
  demand (eq sum (from_bits 0x3F80_0000)) (refused 22)

-- one value at another precision `w`, added to those before it
unfoldable pub add_integer : ℕ → ℕ → ℕ → ℕ → Rule ℕ
add_integer q w j sum = do
  raw ← take (q + leaf.values_encoded + third * j) w
  done (sum + raw)

-- all of them: they do not come to 0
unfoldable pub integers : ℕ → ℕ → ℕ → Rule (Unit {0})
integers q w n = do
  sum ← fold (add_integer q w) 0 n 0
  demand (not (eqb sum 0)) (refused 22)

unfoldable pub probabilities : ℕ → ℕ → Rule (Unit {0})
probabilities q n = do
  w ← take (q + leaf.value_width_minus_one) 5
  pick (eqb (w + 1) 32) (floats q n) (integers q (w + 1) n)
