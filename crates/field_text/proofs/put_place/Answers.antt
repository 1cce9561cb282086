use Rattle.text.proofs.Writes.{writes}
use Rattle.text.specs.Text.{ascii}
use Rattle.field_text.specs.FieldText.{place_text}
use Rattle.field_text.proofs.put_place.Goals as goal

pub put_decimal-requires : goal.put_decimal-requires
unfolding ascii place_text
put_decimal-requires c = search writes

pub put_number-requires : goal.put_number-requires
unfolding ascii place_text
put_number-requires c = search writes

pub returns : goal.returns
unfolding ascii place_text
returns c = search writes
