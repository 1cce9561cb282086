-- A program that has this crate's table, and the code of what the crate calls, has the code of these functions: for the crate `linked`.
use Rattle.rules.proofs.Table.{HasAt}
use Rattle.position_alone.proofs.TheLink.{table, Below, linked-position_alone::read_position}
use Rattle.position_alone.proofs.read_position.Symbol.{code as read_position_code}

pub read_position : HasAt "position_alone" table Below read_position_code
read_position = linked-position_alone::read_position
