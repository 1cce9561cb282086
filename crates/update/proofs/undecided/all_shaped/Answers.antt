use Rattle.update.proofs.Questions.{shape_kept, shape_broken, shapes_kept}
use Rattle.update.proofs.undecided.all_shaped.Goals as goal

pub returns-then-not-is_shaped : goal.returns-then-not-is_shaped
returns-then-not-is_shaped c = shape_broken _ _ c.is_shaped.ensures c.loop-shape-test.true c.loop-shape.invariant c.if-not-is_shaped.true

pub loop-shape-preserved : goal.loop-shape-preserved
loop-shape-preserved c = shape_kept _ _ c.is_shaped.ensures c.loop-shape-test.true c.loop-shape.invariant c.if-not-is_shaped.false

pub returns : goal.returns
returns c = shapes_kept _ _ c.loop-shape-test.false c.loop-shape.invariant
