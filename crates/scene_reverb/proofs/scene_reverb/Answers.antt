use Rattle.parser.proofs.Laws.{readings}
use Rattle.parser.proofs.Choice.{choices}
use Rattle.parser.proofs.Steps.{ends_now}
use Rattle.scene_reverb.specs.SceneReverb.{scene_reverb}
use Rattle.scene_reverb.proofs.scene_reverb.Goals as goal

pub returns : goal.returns
unfolding scene_reverb
returns c = search (readings, choices) depth 14

pub returns-in-0 : goal.returns-in-0
unfolding scene_reverb
returns-in-0 c = search (readings, choices) depth 14

pub returns-in-1 : goal.returns-in-1
unfolding scene_reverb
returns-in-1 c = search (readings, choices) depth 14

pub returns-in-2 : goal.returns-in-2
unfolding scene_reverb
returns-in-2 c = search (readings, choices) depth 14

pub returns-in-3 : goal.returns-in-3
unfolding scene_reverb
returns-in-3 c = search (readings, choices) depth 14

pub returns-in_default : goal.returns-in_default
unfolding scene_reverb
returns-in_default c = search (readings, choices, ends_now) depth 14
