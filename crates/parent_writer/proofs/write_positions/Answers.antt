use Rattle.bit_writer.proofs.Writes.{all_left}
use Rattle.parent_writer.proofs.Turns.{position_fits, position_left, packet_written}
use Rattle.parent_writer.proofs.write_positions.Goals as goal

pub loop-i-init : goal.loop-i-init
loop-i-init c = all_left c.requires.fits

pub write-requires-clause-fits : goal.write-requires-clause-fits
write-requires-clause-fits c =
    position_fits _ _ c.requires.may.same c.loop-i-test.true c.position_code-code.ensures c.loop-i.invariant

pub loop-i-preserved : goal.loop-i-preserved
loop-i-preserved c =
    position_left _ _ c.requires.may.same c.loop-i-test.true c.position_code-code.ensures c.loop-i.invariant c.write.ensures

pub returns : goal.returns
returns c = packet_written _ _ c.loop-i-test.false c.loop-i.invariant
