-- A program that has this crate's table, and the code of what the crate calls, has the code of these functions: for the crate `linked`.
use Rattle.rules.proofs.Table.{HasAt}
use Rattle.scene_reverb.proofs.TheLink.{table, Below, linked-scene_reverb::scene_reverb}
use Rattle.scene_reverb.proofs.scene_reverb.Symbol.{code as scene_reverb_code}

pub scene_reverb : HasAt "scene_reverb" table Below scene_reverb_code
scene_reverb = linked-scene_reverb::scene_reverb
