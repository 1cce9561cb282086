use Rattle.bit_writer.proofs.Writes.{Left}
use Rattle.parent_packet.specs.Packet.{packet}
use Rattle.parent_writer.proofs.Turns.{packet_from}
use Rattle.parent_writer.proofs.write_positions.Given as goal

-- the bits of the positions passed are written, and there is room for the others
abbrev pub invariant-loop-i : goal.invariant-loop-i
invariant-loop-i l = Left (packet l.shapes l.parents) l.fn.writer (packet_from l.shapes l.parents l.i) l.writer
