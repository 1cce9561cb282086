use Rattle.lent.proofs.Answers.{update_read, update_ended, few}
use Rattle.lent.proofs.graph_update.Goals as goal

pub write_back-requires : goal.write_back-requires
write_back-requires c = few _ _ c.array_of-next.ensures _ _ c.read_update-graph.ensures c.is_read.ensures c.if-is_read.true

pub returns-then-is_read : goal.returns-then-is_read
returns-then-is_read c = update_read _ _ c.array_of-next.ensures _ _ c.read_update-graph.ensures c.is_read.ensures c.if-is_read.true c.write_back.ensures

pub returns-else-is_read : goal.returns-else-is_read
returns-else-is_read c = update_ended _ _ c.array_of-next.ensures _ _ c.read_update-graph.ensures c.is_read.ensures c.if-is_read.false
