-- Every row has 59 bytes.
use Prim.Native.Nat.{ℕ}
use mathlib.Core.Path.{◌≡◌, refl}
use mathlib.Core.Bool.{true}
use native.Mathlib.Omega.{arith}
use borrow.Author.Tests.{eqb-true}
use lib.ListN.{length}
use Rattle.text.specs.Text.{ascii}
use Rattle.text.proofs.Rows.{every, wide, at_row}
use Rattle.name_table.specs.Table.{blocks, leaves, block_row, leaf_row}

pub blocks_wide : every (λ _. wide) 0 blocks ≡ true
unfolding blocks ascii
blocks_wide = refl

pub leaves_wide : every (λ _. wide) 0 leaves ≡ true
unfolding leaves ascii
leaves_wide = refl

pub block_long : (w : ℕ) → length (block_row w) ≡ 59
unfolding blocks
block_long w = eqb-true _ _ (at_row wide blocks _ blocks_wide (omega arith))

pub leaf_long : (w : ℕ) → length (leaf_row w) ≡ 59
unfolding leaves
leaf_long w = eqb-true _ _ (at_row wide leaves _ leaves_wide (omega arith))
