use lib.ListN.{drop}
use Rattle.text.proofs.Writes.{Left}
use Rattle.name_row.specs.Row.{indexed}
use Rattle.name_row.proofs.put_row.Given as goal

-- the text of the rest of the row is still to be put
abbrev pub invariant-loop-c : goal.invariant-loop-c
invariant-loop-c l = Left (indexed l.row l.i l.j) l.initial.writer (indexed (drop l.c-index l.row) l.index l.j) l.writer
