use Rattle.record.proofs.Head.count.Goals as goal

pub returns : goal.returns
returns c = c.number.ensures
