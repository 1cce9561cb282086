-- A program that has this crate's table, and the code of what the crate calls, has the code of these functions: for the crate `linked`.
use Rattle.rules.proofs.Table.{HasAt}
use Rattle.name_row.proofs.TheLink.{table, Below, linked-name_row::in_range, linked-name_row::put_row, linked-name_row::stands_in}
use Rattle.name_row.proofs.in_range.Symbol.{code as in_range_code}
use Rattle.name_row.proofs.put_row.Symbol.{code as put_row_code}
use Rattle.name_row.proofs.stands_in.Symbol.{code as stands_in_code}

pub in_range : HasAt "name_row" table Below in_range_code
in_range = linked-name_row::in_range

pub put_row : HasAt "name_row" table Below put_row_code
put_row = linked-name_row::put_row

pub stands_in : HasAt "name_row" table Below stands_in_code
stands_in = linked-name_row::stands_in
