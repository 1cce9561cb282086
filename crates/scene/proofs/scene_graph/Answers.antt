use borrow.Author.Rules.{rules}
use Rattle.validation.proofs.Asked.{valid_after, valid_ended}
use Rattle.scene.specs.Scene.{scene_graph}
use Rattle.scene.proofs.Scenes.{left_ended, declared_read, declared_ended, graph_took}
use Rattle.scene.proofs.scene_graph.Goals as goal

pub returns : goal.returns
unfolding scene_graph
returns c = record { took = record { met = valid_ended c.scene_fields.ensures.met (declared_ended _ (search rules)); most = tt; others = tt }; deepest = tt }

pub returns-2 : goal.returns-2
unfolding scene_graph
returns-2 c =
    let valid = c.validated.ensures in
    let met = left_ended _ c.validated.result (valid_after c.scene_fields.ensures.met c.validated.result (declared_read _ (search rules)) valid.number valid.refuses) (search rules) in
    record { took = record { met = met; most = tt; others = tt }; deepest = tt }

pub returns-3 : goal.returns-3
unfolding scene_graph
returns-3 c =
    let valid = c.validated.ensures in
    let met = valid_after c.scene_fields.ensures.met c.validated.result (declared_read _ (search rules)) valid.number valid.refuses in
    graph_took c.scene_fields.ensures (search rules) met (search rules) valid.deepest
