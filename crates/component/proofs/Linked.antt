-- A program that has this crate's table, and the code of what the crate calls, has the code of these functions: for the crate `linked`.
use Rattle.rules.proofs.Table.{HasAt}
use Rattle.component.proofs.TheLink.{table, Below, linked-component::component_unless_default, linked-component::metadata_esc, linked-component::metadata_number}
use Rattle.component.proofs.component_unless_default.Symbol.{code as component_unless_default_code}
use Rattle.component.proofs.metadata_esc.Symbol.{code as metadata_esc_code}
use Rattle.component.proofs.metadata_number.Symbol.{code as metadata_number_code}

pub component_unless_default : HasAt "component" table Below component_unless_default_code
component_unless_default = linked-component::component_unless_default

pub metadata_esc : HasAt "component" table Below metadata_esc_code
metadata_esc = linked-component::metadata_esc

pub metadata_number : HasAt "component" table Below metadata_number_code
metadata_number = linked-component::metadata_number
