use Rattle.parser.proofs.Laws.{readings}
use Rattle.scene_reverb.specs.SceneReverb.{index_and_reverb}
use Rattle.scene_reverb.proofs.index_and_reverb.Goals as goal

pub returns : goal.returns
unfolding index_and_reverb
returns c = search readings depth 14

pub returns-2 : goal.returns-2
unfolding index_and_reverb
returns-2 c = search readings depth 14
