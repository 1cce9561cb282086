use Rattle.bit_writer.specs.Bits.{bits_of}
use Rattle.bit_writer.proofs.Writes.{Moved}
use Rattle.bit_writer.proofs.BitWriter.write.Given as goal

-- what is written so far, and the bits that wait
abbrev pub invariant-loop-held : goal.invariant-loop-held
invariant-loop-held l = Moved (bits_of l.width l.value) l.fn.self l.self l.waiting l.held

abbrev pub decreases-loop-held : goal.decreases-loop-held
decreases-loop-held l = l.held
