use Rattle.parser.proofs.Laws.{readings}
use Rattle.parser.proofs.Steps.{ends_now}
use Rattle.scene_reverb.specs.SceneReverb.{room_geometry}
use Rattle.scene_reverb.proofs.room_geometry.Goals as goal

pub returns : goal.returns
unfolding room_geometry
returns c = search readings depth 14

pub returns-2 : goal.returns-2
unfolding room_geometry
returns-2 c = search readings depth 14

pub returns-then-fallback-eq0 : goal.returns-then-fallback-eq0
unfolding room_geometry
returns-then-fallback-eq0 c = search readings depth 14

pub returns-3 : goal.returns-3
unfolding room_geometry
returns-3 c = search (readings, ends_now) depth 14
