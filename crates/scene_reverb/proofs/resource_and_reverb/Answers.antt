use Rattle.parser.proofs.Laws.{readings}
use Rattle.scene_reverb.specs.SceneReverb.{resource_and_reverb}
use Rattle.scene_reverb.proofs.resource_and_reverb.Goals as goal

pub returns : goal.returns
unfolding resource_and_reverb
returns c = search readings depth 14

pub returns-2 : goal.returns-2
unfolding resource_and_reverb
returns-2 c = search readings depth 14
