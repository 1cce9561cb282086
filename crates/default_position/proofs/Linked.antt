-- A program that has this crate's table, and the code of what the crate calls, has the code of these functions: for the crate `linked`.
use Rattle.rules.proofs.Table.{HasAt}
use Rattle.default_position.proofs.TheLink.{table, Below, linked-default_position::default_position}
use Rattle.default_position.proofs.default_position.Symbol.{code as default_position_code}

pub default_position : HasAt "default_position" table Below default_position_code
default_position = linked-default_position::default_position
