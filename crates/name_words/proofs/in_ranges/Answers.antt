use Rattle.name_table.proofs.Wide.{block_long, leaf_long}
use Rattle.name_words.proofs.in_ranges.Goals as goal

pub in_range-block_fits-requires : goal.in_range-block_fits-requires
in_range-block_fits-requires c = rw c.block_row-block.ensures (block_long _)

pub in_range-leaf_fits-requires : goal.in_range-leaf_fits-requires
in_range-leaf_fits-requires c = rw c.leaf_row-leaf.ensures (leaf_long _)

pub returns : goal.returns
returns c = rw (c.in_range-block_fits.ensures, c.in_range-leaf_fits.ensures, c.leaf_row-leaf.ensures, c.block_row-block.ensures)
