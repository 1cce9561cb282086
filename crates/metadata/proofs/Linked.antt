-- A program that has this crate's table, and the code of what the crate calls, has the code of these functions: for the crate `linked`.
use Rattle.rules.proofs.Table.{HasAt}
use Rattle.metadata.proofs.TheLink.{table, Below, linked-metadata::read_metadata}
use Rattle.metadata.proofs.read_metadata.Symbol.{code as read_metadata_code}

pub read_metadata : HasAt "metadata" table Below read_metadata_code
read_metadata = linked-metadata::read_metadata
