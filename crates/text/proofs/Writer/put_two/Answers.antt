use Rattle.text.proofs.Writes.{writes}
use Rattle.text.proofs.Writer.put_two.Goals as goal

pub put_number-requires : goal.put_number-requires
put_number-requires c = search writes

pub put_last-requires : goal.put_last-requires
put_last-requires c = search writes

pub returns : goal.returns
returns c = search writes
