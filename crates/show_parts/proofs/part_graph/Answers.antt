use mathlib.Core.Path.{sym}
use Rattle.show_parts.proofs.Answers.{unread, met, unmet}
use Rattle.show_parts.proofs.part_graph.Goals as goal

pub returns-then-not-is_read : goal.returns-then-not-is_read
returns-then-not-is_read c = unread _ _ (sym c.if-not-is_read.ensures)

pub returns-then-spare : goal.returns-then-spare
returns-then-spare c = met _ _ (sym c.if-spare.ensures)

pub returns : goal.returns
returns c = rw c.from.ensures (unmet _ _ (sym c.if-not-is_read.ensures) (sym c.if-spare.ensures))
