-- A program that has this crate's table, and the code of what the crate calls, has the code of these functions: for the crate `linked`.
use Rattle.rules.proofs.Table.{HasAt}
use Rattle.global.proofs.TheLink.{table, Below, linked-global::metadata_global_parameter}
use Rattle.global.proofs.metadata_global_parameter.Symbol.{code as metadata_global_parameter_code}

pub metadata_global_parameter : HasAt "global" table Below metadata_global_parameter_code
metadata_global_parameter = linked-global::metadata_global_parameter
