use mathlib.Core.Path.{sym}
use native.Mathlib.Omega.{arith}
use Rattle.show_parts.proofs.Answers.{update_inside, update_is_read, update_is_not}
use Rattle.show_parts.proofs.update_part.Goals as goal

pub part_graph-graph-requires-clause-inside : goal.part_graph-graph-requires-clause-inside
part_graph-graph-requires-clause-inside c = update_inside _ _ _ _ _ _ (omega arith) c.read_update-read.ensures

pub returns-then-is_read-clause-answered : goal.returns-then-is_read-clause-answered
returns-then-is_read-clause-answered c =
    rw (← c.part-part.ensures.bytes) (update_is_read _ _ _ _ _ _ (omega arith) c.read_update-read.ensures c.part_graph-graph.ensures (sym c.if-is_read.ensures))

pub returns-else-is_read-clause-answered : goal.returns-else-is_read-clause-answered
returns-else-is_read-clause-answered c =
    rw (← c.part-part.ensures.bytes) (update_is_not _ _ _ _ _ _ (omega arith) c.read_update-read.ensures c.part_graph-graph.ensures (sym c.if-is_read.ensures))
