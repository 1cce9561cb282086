use native.Mathlib.Omega.{arith}
use Rattle.show_header.proofs.Sound.{part_start, part_end, part_is, part_few}
use Rattle.show_header.proofs.ShowFile.part.Goals as goal

pub slice_bounds-result-count : goal.slice_bounds-result-count
slice_bounds-result-count c =
    omega (arith, part_start _ c.args.self.now.sound _ c.requires c.offset_of-start.ensures c.end_of-end.ensures)

pub slice_bounds-result-start : goal.slice_bounds-result-start
slice_bounds-result-start c =
    omega (arith, part_start _ c.args.self.now.sound _ c.requires c.offset_of-start.ensures c.end_of-end.ensures)

pub slice_bounds-result-end : goal.slice_bounds-result-end
slice_bounds-result-end c =
    part_end _ c.args.self.now.sound _ c.requires c.offset_of-start.ensures c.end_of-end.ensures

pub returns : goal.returns
returns c =
    let is = part_is _ c.args.self.now.sound _ c.requires c.offset_of-start.ensures c.end_of-end.ensures in
    record { bytes = is; few = rw is (part_few _ _ c.args.self.now.few) }
