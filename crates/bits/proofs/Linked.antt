-- A program that has this crate's table, and the code of what the crate calls, has the code of these functions: for the crate `linked`.
use Rattle.bits.proofs.Table.{HasAt}
use Rattle.bits.proofs.TheLink.{table, Below, linked-bits::read}
use Rattle.bits.proofs.read.Symbol.{code as read_code}

pub read : HasAt "bits" table Below read_code
read = linked-bits::read
