use mathlib.Core.Path.{sym}
use Rattle.text.proofs.Puts.{room_first}
use Rattle.text.proofs.Writes.{fits_next, wrote_both}
use Rattle.show_lines.specs.Lines.{part_line}
use Rattle.show.proofs.Texts.{parts_by_scene, parts_read, parts_unread}
use Rattle.show.proofs.put_parts.Goals as goal

pub put_part-requires : goal.put_part-requires
put_part-requires c =
    room_first _ (part_line _ _) _ (rw (parts_by_scene _ c.show_scene-scene.ensures) at c.requires)

pub put_updates-requires-clause-room : goal.put_updates-requires-clause-room
put_updates-requires-clause-room c =
    let whole = parts_read _ c.show_scene-scene.ensures (sym c.if-is_read.ensures) in
    fits_next (part_line _ _) _ c.put_part.ensures (rw whole at c.requires)

pub returns-then-is_read : goal.returns-then-is_read
returns-then-is_read c =
    rw (parts_read _ c.show_scene-scene.ensures (sym c.if-is_read.ensures)) (wrote_both c.put_part.ensures c.put_updates.ensures)

pub returns-else-is_read : goal.returns-else-is_read
returns-else-is_read c = rw (parts_unread _ c.show_scene-scene.ensures (sym c.if-is_read.ensures)) c.put_part.ensures
