use Rattle.gateway.proofs.gateway_parents.Goals as goal

pub returns : goal.returns
returns c = record { answer = _; written = c.write_parents-written.ensures; same = c.gateway_answer.ensures }
