-- A program that has this crate's table, and the code of what the crate calls, has the code of these functions: for the crate `linked`.
use Rattle.rules.proofs.Table.{HasAt}
use Rattle.configuration.proofs.TheLink.{table, Below, linked-configuration::compression_if_present, linked-configuration::parameters_and_groups}
use Rattle.configuration.proofs.compression_if_present.Symbol.{code as compression_if_present_code}
use Rattle.configuration.proofs.parameters_and_groups.Symbol.{code as parameters_and_groups_code}

pub compression_if_present : HasAt "configuration" table Below compression_if_present_code
compression_if_present = linked-configuration::compression_if_present

pub parameters_and_groups : HasAt "configuration" table Below parameters_and_groups_code
parameters_and_groups = linked-configuration::parameters_and_groups
