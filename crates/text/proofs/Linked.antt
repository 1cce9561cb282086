-- A program that has this crate's table, and the code of what the crate calls, has the code of these functions: for the crate `linked`.
use Rattle.rules.proofs.Table.{HasAt}
use Rattle.text.proofs.TheLink.{table, Below, linked-text::Writer::length, linked-text::Writer::new, linked-text::Writer::put, linked-text::Writer::put_byte, linked-text::Writer::put_decimal, linked-text::Writer::put_last, linked-text::Writer::put_number, linked-text::Writer::put_two, linked-text::table::row_or_first}
use Rattle.text.proofs.Writer.length.Symbol.{code as writer_length_code}
use Rattle.text.proofs.Writer.new.Symbol.{code as writer_new_code}
use Rattle.text.proofs.Writer.put.Symbol.{code as writer_put_code}
use Rattle.text.proofs.Writer.put_byte.Symbol.{code as writer_put_byte_code}
use Rattle.text.proofs.Writer.put_decimal.Symbol.{code as writer_put_decimal_code}
use Rattle.text.proofs.Writer.put_last.Symbol.{code as writer_put_last_code}
use Rattle.text.proofs.Writer.put_number.Symbol.{code as writer_put_number_code}
use Rattle.text.proofs.Writer.put_two.Symbol.{code as writer_put_two_code}
use Rattle.text.proofs.table.row_or_first.Symbol.{code as table_row_or_first_code}

pub writer_length : HasAt "text" table Below writer_length_code
writer_length = linked-text::Writer::length

pub writer_new : HasAt "text" table Below writer_new_code
writer_new = linked-text::Writer::new

pub writer_put : HasAt "text" table Below writer_put_code
writer_put = linked-text::Writer::put

pub writer_put_byte : HasAt "text" table Below writer_put_byte_code
writer_put_byte = linked-text::Writer::put_byte

pub writer_put_decimal : HasAt "text" table Below writer_put_decimal_code
writer_put_decimal = linked-text::Writer::put_decimal

pub writer_put_last : HasAt "text" table Below writer_put_last_code
writer_put_last = linked-text::Writer::put_last

pub writer_put_number : HasAt "text" table Below writer_put_number_code
writer_put_number = linked-text::Writer::put_number

pub writer_put_two : HasAt "text" table Below writer_put_two_code
writer_put_two = linked-text::Writer::put_two

pub table_row_or_first : HasAt "text" table Below table_row_or_first_code
table_row_or_first = linked-text::table::row_or_first
