use mathlib.Core.Path.{sym}
use Rattle.part_fields.proofs.Answers.{update_answered, scene_unread}
use Rattle.part_fields.proofs.read_update.Goals as goal

pub returns-then-not-is_read : goal.returns-then-not-is_read
returns-then-not-is_read c = scene_unread _ _ _ c.show_scene-scene.ensures (sym c.if-not-is_read.ensures)

pub returns : goal.returns
returns c =
    update_answered _ _ _ c.show_scene-scene.ensures (sym c.if-not-is_read.ensures) c.shapes_before.ensures c.update_part-graph.ensures.answered
