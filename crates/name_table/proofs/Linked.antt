-- A program that has this crate's table, and the code of what the crate calls, has the code of these functions: for the crate `linked`.
use Rattle.rules.proofs.Table.{HasAt}
use Rattle.name_table.proofs.TheLink.{table, Below, linked-name_table::block_row, linked-name_table::leaf_row}
use Rattle.name_table.proofs.block_row.Symbol.{code as block_row_code}
use Rattle.name_table.proofs.leaf_row.Symbol.{code as leaf_row_code}

pub block_row : HasAt "name_table" table Below block_row_code
block_row = linked-name_table::block_row

pub leaf_row : HasAt "name_table" table Below leaf_row_code
leaf_row = linked-name_table::leaf_row
