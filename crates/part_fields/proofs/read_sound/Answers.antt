use native.Mathlib.Omega.{arith}
use Rattle.part_fields.proofs.Answers.{no_part, scene_answered, other_answered}
use Rattle.part_fields.proofs.read_sound.Goals as goal

pub returns-then-part_count-k : goal.returns-then-part_count-k
returns-then-part_count-k c = no_part _ _ _ c.part_count.ensures (omega arith)

pub returns-then-k-eq0 : goal.returns-then-k-eq0
returns-then-k-eq0 c =
    scene_answered _ _ _ c.part_count.ensures (omega arith) c.if-k-eq0.true c.scene_part-scene.ensures

pub returns : goal.returns
returns c =
    other_answered _ _ _ c.part_count.ensures (omega arith) c.if-k-eq0.false c.read_update.ensures
