-- The extensions of a position.
use Rattle.std.specs.Prelude.{ℕ, zero, suc, ◌+◌, Bool, true, false, eqb}
use Rattle.rules.specs.Name.{third}
use Rattle.rules.specs.Leaf as leaf
use Rattle.rules.specs.Rule.{Rule, done, ◌>>=◌, ◌>>◌, pick}
use Rattle.rules.specs.Derived.{take, flag, passive_bits, invalid}

-- what follows the type of an extension, whose names begin with `q`
unfoldable pub extension_body : ℕ → Rule (Unit {0})
extension_body q = do
  w ← take (q + leaf.length_width_minus_four) 4
  n ← take (q + leaf.bits_minus_one) (w + 4)
  passive_bits (q + leaf.extension_payload) (n + 1)

-- one extension, and whether more may follow: type 0 is the last
unfoldable pub extension : ℕ → Rule Bool
extension q = do
  type ← take (q + leaf.extension_type) 4
  pick (eqb type 0)
      (done false)
      (do
        extension_body q
        done true)

-- at most `k` extensions, the last of type 0: without it 7, and no type is read after the last
unfoldable pub extensions : ℕ → ℕ → Rule (Unit {0})
extensions zero q = invalid 7
extensions (suc k) q = do
  more ← extension q
  pick more (extensions k (q + third)) (done tt)

unfoldable pub extensions_if_present : ℕ → Rule (Unit {0})
extensions_if_present p = do
  there ← flag (p + leaf.extensions_present)
  pick there (extensions 32 p) (done tt)
