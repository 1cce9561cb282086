-- `metadata_compression`, type 0: the widths of LZW.
use Rattle.std.specs.Prelude.{ℕ, ◌+◌, [], ◌∷◌, ◌||◌, ltb}
use Rattle.rules.specs.Block as block
use Rattle.rules.specs.Leaf as leaf
use Rattle.rules.specs.Rule.{Rule, done, ◌>>=◌, pick}
use Rattle.rules.specs.Derived.{escaped, stop}

-- `if initial > 15 || maximum > 16 { .. }`
unfoldable pub lzw_widths : ℕ → ℕ → Rule (Unit {0})
lzw_widths initial maximum = pick (ltb 15 initial || ltb 16 maximum) (stop 35) (done tt)

-- `0 => { .. }`, in `match kind`
unfoldable pub lzw : Rule (Unit {0})
lzw = do
  initial ← escaped (block.compression + leaf.initial_width_minus_one) (5 ∷ 8 ∷ 16 ∷ [])
  delta ← escaped (block.compression + leaf.maximum_width_delta) (3 ∷ 8 ∷ 16 ∷ [])
  lzw_widths (initial + 1) (initial + 1 + delta)
