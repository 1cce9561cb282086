-- A program that has this crate's table, and the code of what the crate calls, has the code of these functions: for the crate `linked`.
use Rattle.rules.proofs.Table.{HasAt}
use Rattle.extensions.proofs.TheLink.{table, Below, linked-extensions::extensions_if_present}
use Rattle.extensions.proofs.extensions_if_present.Symbol.{code as extensions_if_present_code}

pub extensions_if_present : HasAt "extensions" table Below extensions_if_present_code
extensions_if_present = linked-extensions::extensions_if_present
