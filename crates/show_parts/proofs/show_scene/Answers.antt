use Rattle.show_parts.proofs.Answers.{words_off}
use Rattle.show_parts.proofs.show_scene.Goals as goal

pub returns : goal.returns
returns c = let same = words_off c.scene_part.ensures.answered in rw same at c.scene_part.ensures
