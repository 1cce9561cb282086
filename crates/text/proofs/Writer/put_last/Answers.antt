use Rattle.text.proofs.Writes.{writes}
use Rattle.text.proofs.Writer.put_last.Goals as goal

pub put_number-requires : goal.put_number-requires
put_number-requires c = search writes

pub put_byte-requires : goal.put_byte-requires
put_byte-requires c = search writes

pub returns : goal.returns
returns c = search writes
