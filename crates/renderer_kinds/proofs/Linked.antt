-- A program that has this crate's table, and the code of what the crate calls, has the code of these functions: for the crate `linked`.
use Rattle.rules.proofs.Table.{HasAt}
use Rattle.renderer_kinds.proofs.TheLink.{table, Below, linked-renderer_kinds::encoded_flag, linked-renderer_kinds::encoded_if_one, linked-renderer_kinds::encoded_unless_zero, linked-renderer_kinds::flag_and_encoded, linked-renderer_kinds::order_and_encoded, linked-renderer_kinds::regions_unless_all, linked-renderer_kinds::single_region_if_present, linked-renderer_kinds::spread, linked-renderer_kinds::three_values}
use Rattle.renderer_kinds.proofs.encoded_flag.Symbol.{code as encoded_flag_code}
use Rattle.renderer_kinds.proofs.encoded_if_one.Symbol.{code as encoded_if_one_code}
use Rattle.renderer_kinds.proofs.encoded_unless_zero.Symbol.{code as encoded_unless_zero_code}
use Rattle.renderer_kinds.proofs.flag_and_encoded.Symbol.{code as flag_and_encoded_code}
use Rattle.renderer_kinds.proofs.order_and_encoded.Symbol.{code as order_and_encoded_code}
use Rattle.renderer_kinds.proofs.regions_unless_all.Symbol.{code as regions_unless_all_code}
use Rattle.renderer_kinds.proofs.single_region_if_present.Symbol.{code as single_region_if_present_code}
use Rattle.renderer_kinds.proofs.spread.Symbol.{code as spread_code}
use Rattle.renderer_kinds.proofs.three_values.Symbol.{code as three_values_code}

pub encoded_flag : HasAt "renderer_kinds" table Below encoded_flag_code
encoded_flag = linked-renderer_kinds::encoded_flag

pub encoded_if_one : HasAt "renderer_kinds" table Below encoded_if_one_code
encoded_if_one = linked-renderer_kinds::encoded_if_one

pub encoded_unless_zero : HasAt "renderer_kinds" table Below encoded_unless_zero_code
encoded_unless_zero = linked-renderer_kinds::encoded_unless_zero

pub flag_and_encoded : HasAt "renderer_kinds" table Below flag_and_encoded_code
flag_and_encoded = linked-renderer_kinds::flag_and_encoded

pub order_and_encoded : HasAt "renderer_kinds" table Below order_and_encoded_code
order_and_encoded = linked-renderer_kinds::order_and_encoded

pub regions_unless_all : HasAt "renderer_kinds" table Below regions_unless_all_code
regions_unless_all = linked-renderer_kinds::regions_unless_all

pub single_region_if_present : HasAt "renderer_kinds" table Below single_region_if_present_code
single_region_if_present = linked-renderer_kinds::single_region_if_present

pub spread : HasAt "renderer_kinds" table Below spread_code
spread = linked-renderer_kinds::spread

pub three_values : HasAt "renderer_kinds" table Below three_values_code
three_values = linked-renderer_kinds::three_values
