-- A program that has this crate's table, and the code of what the crate calls, has the code of these functions: for the crate `linked`.
use Rattle.rules.proofs.Table.{HasAt}
use Rattle.part_fields.proofs.TheLink.{table, Below, linked-part_fields::read_part}
use Rattle.part_fields.proofs.read_part.Symbol.{code as read_part_code}

pub read_part : HasAt "part_fields" table Below read_part_code
read_part = linked-part_fields::read_part
