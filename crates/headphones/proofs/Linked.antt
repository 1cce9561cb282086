-- A program that has this crate's table, and the code of what the crate calls, has the code of these functions: for the crate `linked`.
use Rattle.rules.proofs.Table.{HasAt}
use Rattle.headphones.proofs.TheLink.{table, Below, linked-headphones::headphones}
use Rattle.headphones.proofs.headphones.Symbol.{code as headphones_code}

pub headphones : HasAt "headphones" table Below headphones_code
headphones = linked-headphones::headphones
