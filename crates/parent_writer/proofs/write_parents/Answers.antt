use Rattle.parent_writer.proofs.Asked.{all_met, may_write, question_met}
use Rattle.parent_writer.proofs.Written.{written, refused}
use Rattle.parent_writer.proofs.write_parents.Goals as goal

pub write_packet-requires-clause-may : goal.write_packet-requires-clause-may
write_packet-requires-clause-may c = may_write _ _ (all_met _ _ (question_met _ _ _ c.in-Ok.ensures.number).0)

pub write_packet-requires-clause-room : goal.write_packet-requires-clause-room
write_packet-requires-clause-room c = (question_met _ _ _ c.in-Ok.ensures.number).1

pub returns-in-Ok : goal.returns-in-Ok
returns-in-Ok c = written _ _ _ c.in-Ok.ensures.number c.in-Ok.ensures.length c.write_packet.ensures

pub returns-in-Err : goal.returns-in-Err
returns-in-Err c = rw c.from.ensures (refused _ _ _ c.in-Err.reason c.in-Err.ensures.number c.in-Err.ensures.refuses)
