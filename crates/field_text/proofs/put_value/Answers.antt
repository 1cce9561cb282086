use mathlib.Core.List.{◌++◌}
use Rattle.rules.specs.Words.{word_of}
use Rattle.text.proofs.Puts.{room_first}
use Rattle.text.proofs.Writes.{fits_next, wrote_both}
use Rattle.text.specs.Text.{ascii, decimal}
use Rattle.field_text.specs.FieldText.{unit, value_text}
use Rattle.field_text.proofs.put_value.Goals as goal

pub put_number-requires : goal.put_number-requires
unfolding ascii value_text
put_number-requires c = rw c.word.ensures (room_first _ (ascii " " ++ decimal (word_of c.args.value)) (ascii (unit c.args.value)) c.requires)

pub put-requires : goal.put-requires
unfolding ascii value_text
put-requires c = rw c.unit.ensures (fits_next _ (ascii (unit c.args.value)) (rw c.word.ensures at c.put_number.ensures) c.requires)

pub returns : goal.returns
unfolding ascii value_text
returns c = wrote_both (rw c.word.ensures at c.put_number.ensures) (rw c.unit.ensures at c.put.ensures)
