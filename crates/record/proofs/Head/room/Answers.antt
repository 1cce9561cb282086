use Rattle.record.proofs.Head.room.Goals as goal

pub returns : goal.returns
returns c = c.number.ensures
