use Rattle.record.proofs.Head.size.Goals as goal

pub returns : goal.returns
returns c = c.number.ensures
