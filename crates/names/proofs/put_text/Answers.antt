use native.Mathlib.Omega.{arith}
use Rattle.text.proofs.Writes.{lent_fits, lent_put}
use Rattle.name_words.proofs.Lengths.{name_short}
use Rattle.names.proofs.put_text.Goals as goal

pub put_name-requires : goal.put_name-requires
put_name-requires c = lent_fits c.new-writer.ensures _ (omega (arith, name_short _ c.ranges.word.fits, c.told-text))

pub returns : goal.returns
returns c = rw c.length.ensures (lent_put c.new-writer.ensures c.put_name.ensures)
