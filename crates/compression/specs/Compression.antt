-- `metadata_compression`: the field rules of a compression configuration of `size` bytes.
use Rattle.std.specs.Prelude.{ℕ, ◌+◌, ◌-◌, ◌*◌, ◌%◌, [], ◌∷◌, leb, eqb}
use Rattle.std.specs.Float.Ieee.Scale.{finite}
use Rattle.rules.specs.Block as block
use Rattle.rules.specs.Leaf as leaf
use Rattle.rules.specs.Rule.{Rule, done, refused, ◌>>=◌, ◌>>◌, pick, position, end, set_end}
use Rattle.rules.specs.Derived.{◌⇒◌, choose, take, flag, passive_bits, demand, remaining}
use Rattle.probability.specs.Probability.{from_bits}
use Rattle.code_tables.specs.Tables.{tables}
use Rattle.lzw.specs.Lzw.{lzw}

-- `if kind != 3 && self.flag(parameter_present)? { .. }`
unfoldable pub parameter : Rule (Unit {0})
parameter = do
  raw ← take (block.compression + leaf.parameter_bits) 32
  demand (finite (from_bits raw)) (refused 22)

unfoldable pub parameter_if_present : ℕ → Rule (Unit {0})
parameter_if_present kind =
    pick (eqb kind 3)
    (done tt)
    (do
      there ← flag (block.compression + leaf.parameter_present)
      pick there parameter (done tt))

-- up to a whole byte, counted from `start`
unfoldable pub padding : ℕ → Rule (Unit {0})
padding start = do
  p ← position
  passive_bits (block.compression + leaf.padding) ((8 - (p - start) % 8) % 8)

-- `1..=3 => { .. }`
unfoldable pub padded_tables : ℕ → ℕ → Rule (Unit {0})
padded_tables kind start = do
  tables kind
  parameter_if_present kind
  padding start

-- `match kind { .. }`, in a window of `w` bits from `start` on
unfoldable pub contents : ℕ → ℕ → ℕ → Rule (Unit {0})
contents kind start w =
    choose kind
    ((0 ∷ []) ⇒ lzw ∷ (1 ∷ 2 ∷ 3 ∷ []) ⇒ padded_tables kind start ∷ [])
    (passive_bits (block.compression + leaf.payload) w)

unfoldable pub metadata_compression : ℕ → ℕ → Rule (Unit {0})
metadata_compression kind size = do
  start ← position
  left ← remaining
  demand (leb (size * 8) left) (refused 19)
  previous ← end
  set_end (start + size * 8)
  contents kind start (size * 8)
  p ← position
  demand (eqb p (start + size * 8)) (refused 19)
  set_end previous
