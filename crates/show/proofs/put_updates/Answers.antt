use Rattle.text.proofs.Puts.{room_first}
use Rattle.text.proofs.Writes.{less_left}
use Rattle.show_lines.specs.Lines.{part_line}
use Rattle.show.proofs.Texts.{update_more, update_end}
use Rattle.show.proofs.put_updates.Goals as goal

pub put_part-requires : goal.put_part-requires
put_part-requires c =
    let inside = rw c.part_count-k-end.ensures at c.loop-k-test.true in
    let here = update_more _ _ _ _ inside c.show_update-graph.ensures.answered in
    room_first _ (part_line _ _) _ (rw here at c.loop-k.invariant.fits)

pub loop-k-preserved : goal.loop-k-preserved
loop-k-preserved c =
    let inside = rw c.part_count-k-end.ensures at c.loop-k-test.true in
    let here = update_more _ _ _ _ inside c.show_update-graph.ensures.answered in
    less_left (part_line _ _) _ (rw here at c.loop-k.invariant) c.put_part.ensures

pub put_shapes-requires-clause-room : goal.put_shapes-requires-clause-room
put_shapes-requires-clause-room c =
    rw (update_end _ _ _ _ (rw c.part_count-k-end.ensures at c.loop-k-test.false)) at c.loop-k.invariant.fits

pub returns : goal.returns
returns c =
    let left = rw (update_end _ _ _ _ (rw c.part_count-k-end.ensures at c.loop-k-test.false)) at c.loop-k.invariant in
    left.then c.put_shapes.ensures
