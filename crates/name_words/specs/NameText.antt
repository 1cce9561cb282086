-- Which name words are known, and the text of each (docs/FIELDS.md).
use Rattle.std.specs.Prelude.{ℕ, List, [], ◌∷◌, ◌++◌, Bool, ◌&&◌}
use Prim.Native.Char.{code}
use Rattle.name_table.specs.Table.{block_of, first_of, second_of, third_of, fourth_of, block_row, leaf_row}
use Rattle.name_row.specs.Row.{in_range, stands_in, indexed}

-- whether a word is known: its leaf stands in its block, and all indices are in range
unfoldable pub known : ℕ → Bool
known w =
    stands_in (leaf_row w) (block_of w)
    && (in_range (block_row w) (first_of w) (second_of w) && in_range (leaf_row w) (third_of w) (fourth_of w))

-- what a name begins with: the block's text and a dot
unfoldable pub block_text : ℕ → List ℕ
block_text w = indexed (block_row w) (first_of w) (second_of w) ++ (code "." ∷ [])

unfoldable pub leaf_text : ℕ → List ℕ
leaf_text w = indexed (leaf_row w) (third_of w) (fourth_of w)

unfoldable pub name_text : ℕ → List ℕ
name_text w = block_text w ++ leaf_text w
