use Rattle.positions.specs.Positions.{position_at}
use Rattle.positions.proofs.Loops.{Reached}
use Rattle.positions.proofs.positions.Given as goal

-- the positions before `i` are read
abbrev pub invariant-loop-i : goal.invariant-loop-i
invariant-loop-i l = Reached (position_at l.full) l.initial.shapes l.initial.parser l.i l.shapes l.parser
