-- A program that has this crate's table, and the code of what the crate calls, has the code of these functions: for the crate `linked`.
use Rattle.rules.proofs.Table.{HasAt}
use Rattle.field_lines.proofs.TheLink.{table, Below, linked-field_lines::field_line}
use Rattle.field_lines.proofs.field_line.Symbol.{code as field_line_code}

pub field_line : HasAt "field_lines" table Below field_line_code
field_line = linked-field_lines::field_line
