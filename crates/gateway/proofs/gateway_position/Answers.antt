use Rattle.gateway.proofs.gateway_position.Goals as goal

pub returns : goal.returns
returns c = record { answer = _; answered = c.read_position-a.ensures; same = c.exported.ensures }
