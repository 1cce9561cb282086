use mathlib.Core.Path.{sym}
use Rattle.show_parts.proofs.Answers.{scene_inside, scene_is_read, scene_is_not}
use Rattle.show_parts.proofs.scene_part.Goals as goal

pub part_graph-graph-requires-clause-inside : goal.part_graph-graph-requires-clause-inside
part_graph-graph-requires-clause-inside c = scene_inside _ _ _ _ c.read_scene-scene.ensures

pub returns-then-is_read : goal.returns-then-is_read
returns-then-is_read c =
    rw (← c.part-part.ensures.bytes) (scene_is_read _ _ _ _ c.read_scene-scene.ensures c.part_graph-graph.ensures (sym c.if-is_read.ensures))

pub returns : goal.returns
returns c =
    rw (← c.part-part.ensures.bytes) (scene_is_not _ _ _ _ c.read_scene-scene.ensures c.part_graph-graph.ensures (sym c.if-is_read.ensures) (rw c.default.ensures))
