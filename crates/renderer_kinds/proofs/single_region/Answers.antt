use Rattle.parser.proofs.Laws.{readings}
use Rattle.renderer_kinds.specs.Kinds.{single_region}
use Rattle.renderer_kinds.proofs.single_region.Goals as goal
use Rattle.renderer_kinds.proofs.single_region.Goals.{then-cartesian, else-cartesian}

pub returns : goal.returns
unfolding single_region
returns c = search readings depth 14

pub returns-then-predefined : goal.returns-then-predefined
unfolding single_region
returns-then-predefined c = search readings depth 14

pub returns-2 : goal.returns-2
unfolding single_region
returns-2 c = search readings depth 14

pub returns-3 : goal.returns-3
unfolding single_region
returns-3 c =
    elim c.if-cartesian.branch [
      | then-cartesian w ↦ let read = rw w.widths-is at c.values.ensures in search readings depth 14
      | else-cartesian w ↦ let read = rw w.widths-is at c.values.ensures in search readings depth 14
    ]
