use Rattle.record.proofs.Head.fields.Goals as goal

pub returns : goal.returns
returns c = c.number.ensures
