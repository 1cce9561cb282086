use Rattle.gateway.proofs.gateway_scene.Goals as goal

pub returns : goal.returns
returns c = record { scene = _; answered = c.read_scene-a.ensures; same = rw c.exported_graph-answer.ensures }
