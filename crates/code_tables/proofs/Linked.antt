-- A program that has this crate's table, and the code of what the crate calls, has the code of these functions: for the crate `linked`.
use Rattle.rules.proofs.Table.{HasAt}
use Rattle.code_tables.proofs.TheLink.{table, Below, linked-code_tables::tables}
use Rattle.code_tables.proofs.tables.Symbol.{code as tables_code}

pub tables : HasAt "code_tables" table Below tables_code
tables = linked-code_tables::tables
