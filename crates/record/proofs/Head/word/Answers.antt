use Rattle.record.proofs.Head.word.Goals as goal

pub returns : goal.returns
returns c = c.number.ensures
