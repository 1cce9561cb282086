use mathlib.Core.Path.{◌≡◌}
use Rattle.parent_writer.proofs.Codes.{flags, kept_code, none_code, parent_code}
use Rattle.parent_writer.proofs.position_code.Goals as goal
use Rattle.parent_writer.proofs.position_code.Goals.{then-shape, else-shape}

pub returns-then-shape-parent : goal.returns-then-shape-parent
returns-then-shape-parent c = kept_code c.args.shape c.args.parent c.if-shape-parent.true

pub returns-then-parent-eq0 : goal.returns-then-parent-eq0
returns-then-parent-eq0 c =
    let after : c.if-shape.flags ≡ flags c.args.shape.range_dynamic =
    elim c.if-shape.branch [ then-shape w ↦ rw w.if-shape.true w.flags-is | else-shape w ↦ rw w.if-shape.false w.flags-is ] in
    rw after (none_code c.args.shape c.args.parent c.if-shape-parent.false c.if-parent-eq0.true)

pub returns : goal.returns
returns c =
    let after : c.if-shape.flags ≡ flags c.args.shape.range_dynamic =
    elim c.if-shape.branch [ then-shape w ↦ rw w.if-shape.true w.flags-is | else-shape w ↦ rw w.if-shape.false w.flags-is ] in
    rw after (parent_code c.args.shape c.args.parent c.if-shape-parent.false c.if-parent-eq0.false c.requires)
