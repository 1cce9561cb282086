use Rattle.parent_writer.proofs.Turns.{Counted}
use Rattle.parent_writer.proofs.packet_length.Given as goal

-- the bits of the positions passed
abbrev pub invariant-loop-i : goal.invariant-loop-i
invariant-loop-i l = Counted l.shapes l.parents l.i l.length
