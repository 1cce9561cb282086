use mathlib.Core.Path.{ap, ◌∙◌}
use native.Mathlib.Omega.{arith}
use lib.ListN.{length, length-map}
use Rattle.ranks.proofs.Walks.{none_known}
use Rattle.text.proofs.Writes.{fits_next, wrote_both}
use Rattle.show_lines.specs.Lines.{deepest_line}
use Rattle.show_lines.proofs.put_shapes.Goals as goal

pub put_positions-deepest-requires-clause-known : goal.put_positions-deepest-requires-clause-known
put_positions-deepest-requires-clause-known c = none_known _ _ 63 (ap length c.parents_of.ensures ∙ length-map _ _) c.requires.few (omega arith)

pub put_deepest-requires : goal.put_deepest-requires
put_deepest-requires c =
    let put = c.put_positions-deepest.ensures in
    rw put.deepest (fits_next _ (deepest_line _) put.lines (rw (← c.parents_of.ensures) at c.requires.room))

pub returns : goal.returns
returns c =
    let put = c.put_positions-deepest.ensures in
    rw (← c.parents_of.ensures) (wrote_both put.lines (rw put.deepest at c.put_deepest.ensures))
