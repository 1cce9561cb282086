use mathlib.Core.List.{[], ◌∷◌}
use Rattle.text.proofs.Puts.{room_first}
use Rattle.text.proofs.Writes.{fits_next, wrote_both}
use Rattle.name_table.specs.Table.{block_row}
use Rattle.name_row.specs.Row.{indexed}
use Rattle.name_words.specs.NameText.{block_text, leaf_text, name_text}
use Rattle.name_words.proofs.put_name.Goals as goal

-- the block's text, and the dot after it
pub put_row-requires : goal.put_row-requires
unfolding name_text block_text
put_row-requires c =
    let block = room_first _ (block_text c.args.word) (leaf_text c.args.word) c.requires in
    rw c.block_row.ensures (room_first _ (indexed (block_row c.args.word) _ _) (46 ∷ []) block)

pub put_byte-requires : goal.put_byte-requires
unfolding name_text block_text
put_byte-requires c =
    let block = room_first _ (block_text c.args.word) (leaf_text c.args.word) c.requires in
    fits_next _ (46 ∷ []) (rw c.block_row.ensures at c.put_row.ensures) block

-- and the leaf's
pub put_row-requires-2 : goal.put_row-requires-2
unfolding name_text block_text leaf_text
put_row-requires-2 c =
    let block = wrote_both (rw c.block_row.ensures at c.put_row.ensures) c.put_byte.ensures in
    rw c.leaf_row.ensures (fits_next _ (leaf_text c.args.word) block c.requires)

pub returns : goal.returns
unfolding name_text block_text leaf_text
returns c =
    let block = wrote_both (rw c.block_row.ensures at c.put_row.ensures) c.put_byte.ensures in
    wrote_both block (rw c.leaf_row.ensures at c.put_row-2.ensures)
