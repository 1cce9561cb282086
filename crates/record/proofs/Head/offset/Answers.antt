use Rattle.record.proofs.Head.offset.Goals as goal

pub returns : goal.returns
returns c = c.word.ensures
