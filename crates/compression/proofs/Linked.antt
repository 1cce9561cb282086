-- A program that has this crate's table, and the code of what the crate calls, has the code of these functions: for the crate `linked`.
use Rattle.rules.proofs.Table.{HasAt}
use Rattle.compression.proofs.TheLink.{table, Below, linked-compression::metadata_compression}
use Rattle.compression.proofs.metadata_compression.Symbol.{code as metadata_compression_code}

pub metadata_compression : HasAt "compression" table Below metadata_compression_code
metadata_compression = linked-compression::metadata_compression
