-- A program that has this crate's table, and the code of what the crate calls, has the code of these functions: for the crate `linked`.
use Rattle.rules.proofs.Table.{HasAt}
use Rattle.common_resources.proofs.TheLink.{table, Below, linked-common_resources::metadata_resource, linked-common_resources::metadata_reverb, linked-common_resources::number, linked-common_resources::number_if, linked-common_resources::number_unless, linked-common_resources::payload, linked-common_resources::resource_parameters, linked-common_resources::values}
use Rattle.common_resources.proofs.metadata_resource.Symbol.{code as metadata_resource_code}
use Rattle.common_resources.proofs.metadata_reverb.Symbol.{code as metadata_reverb_code}
use Rattle.common_resources.proofs.number.Symbol.{code as number_code}
use Rattle.common_resources.proofs.number_if.Symbol.{code as number_if_code}
use Rattle.common_resources.proofs.number_unless.Symbol.{code as number_unless_code}
use Rattle.common_resources.proofs.payload.Symbol.{code as payload_code}
use Rattle.common_resources.proofs.resource_parameters.Symbol.{code as resource_parameters_code}
use Rattle.common_resources.proofs.values.Symbol.{code as values_code}

pub metadata_resource : HasAt "common_resources" table Below metadata_resource_code
metadata_resource = linked-common_resources::metadata_resource

pub metadata_reverb : HasAt "common_resources" table Below metadata_reverb_code
metadata_reverb = linked-common_resources::metadata_reverb

pub number : HasAt "common_resources" table Below number_code
number = linked-common_resources::number

pub number_if : HasAt "common_resources" table Below number_if_code
number_if = linked-common_resources::number_if

pub number_unless : HasAt "common_resources" table Below number_unless_code
number_unless = linked-common_resources::number_unless

pub payload : HasAt "common_resources" table Below payload_code
payload = linked-common_resources::payload

pub resource_parameters : HasAt "common_resources" table Below resource_parameters_code
resource_parameters = linked-common_resources::resource_parameters

pub values : HasAt "common_resources" table Below values_code
values = linked-common_resources::values
