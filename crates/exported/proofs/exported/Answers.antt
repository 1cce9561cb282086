use Rattle.exported.proofs.exported.Goals as goal

pub returns : goal.returns
returns c = c.gateway_answer.ensures
