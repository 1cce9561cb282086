use lib.ListN.{drop_of_length-le}
use Rattle.text.proofs.Writes.{all_left, none_left, byte_fits, byte_left}
use Rattle.text.proofs.Writer.put.Goals as goal

pub loop-byte-init : goal.loop-byte-init
loop-byte-init c = all_left c.requires

pub put_byte-requires : goal.put_byte-requires
put_byte-requires c = byte_fits _ _ c.loop-byte.invariant c.loop-byte-test.true

pub loop-byte-preserved : goal.loop-byte-preserved
loop-byte-preserved c = byte_left _ _ c.loop-byte.invariant c.loop-byte-test.true c.put_byte.ensures

pub returns : goal.returns
returns c = none_left (rw (drop_of_length-le _ c.loop-byte-test.false) at c.loop-byte.invariant)
