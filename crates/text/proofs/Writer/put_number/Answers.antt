use Rattle.text.proofs.Writes.{writes}
use Rattle.text.proofs.Writer.put_number.Goals as goal

pub put-requires : goal.put-requires
put-requires c = search writes

pub put_decimal-requires : goal.put_decimal-requires
put_decimal-requires c = search writes

pub returns : goal.returns
returns c = search writes
