-- A program that has this crate's table, and the code of what the crate calls, has the code of these functions: for the crate `linked`.
use Rattle.rules.proofs.Table.{HasAt}
use Rattle.positions.proofs.TheLink.{table, Below, linked-positions::positions}
use Rattle.positions.proofs.positions.Symbol.{code as positions_code}

pub positions : HasAt "positions" table Below positions_code
positions = linked-positions::positions
