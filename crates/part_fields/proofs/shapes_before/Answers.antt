use mathlib.Core.Path.{◌∙◌}
use Rattle.part_fields.proofs.Answers.{shapes_more, shapes_end}
use Rattle.part_fields.proofs.shapes_before.Goals as goal

pub loop-i-preserved : goal.loop-i-preserved
loop-i-preserved c = shapes_more _ _ _ _ c.loop-i-test.true c.show_update.ensures.answered ∙ c.loop-i.invariant

pub returns : goal.returns
returns c = shapes_end _ _ _ _ c.loop-i-test.false ∙ c.loop-i.invariant
