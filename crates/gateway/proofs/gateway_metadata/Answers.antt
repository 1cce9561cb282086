use Rattle.gateway.proofs.gateway_metadata.Goals as goal

pub returns : goal.returns
returns c = record { answer = _; answered = c.read_metadata-a.ensures; same = c.exported.ensures }
