use Rattle.gateway.proofs.gateway_name.Goals as goal

pub returns : goal.returns
returns c = record { answer = _; named = c.name_text-a.ensures; same = c.gateway_answer.ensures }
