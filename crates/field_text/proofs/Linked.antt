-- A program that has this crate's table, and the code of what the crate calls, has the code of these functions: for the crate `linked`.
use Rattle.rules.proofs.Table.{HasAt}
use Rattle.field_text.proofs.TheLink.{table, Below, linked-field_text::put_place, linked-field_text::put_value}
use Rattle.field_text.proofs.put_place.Symbol.{code as put_place_code}
use Rattle.field_text.proofs.put_value.Symbol.{code as put_value_code}

pub put_place : HasAt "field_text" table Below put_place_code
put_place = linked-field_text::put_place

pub put_value : HasAt "field_text" table Below put_value_code
put_value = linked-field_text::put_value
