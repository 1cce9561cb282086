use Rattle.gateway.proofs.gateway_update.Goals as goal

pub returns : goal.returns
returns c = record { graph = _; answered = c.graph_update-a.ensures; same = c.exported_graph.ensures }
