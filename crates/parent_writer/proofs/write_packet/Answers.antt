use borrow.Author.Rules.{rules}
use native.Mathlib.Omega.{arith}
use Rattle.bit_writer.proofs.Writes.{lent_fits, fits_none, lent_back}
use Rattle.parent_writer.proofs.write_packet.Goals as goal

pub write_positions-requires-clause-fits : goal.write_positions-requires-clause-fits
write_positions-requires-clause-fits c = lent_fits c.new-writer.ensures _ (omega (arith, c.requires.room))

pub finish-requires : goal.finish-requires
finish-requires c = fits_none _ c.write_positions.ensures (lent_fits c.new-writer.ensures _ (omega (arith, c.requires.room)))

pub returns : goal.returns
returns c = lent_back c.new-writer.ensures c.write_positions.ensures c.finish.ensures (search rules)
