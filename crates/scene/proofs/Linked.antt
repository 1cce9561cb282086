-- A program that has this crate's table, and the code of what the crate calls, has the code of these functions: for the crate `linked`.
use Rattle.rules.proofs.Table.{HasAt}
use Rattle.scene.proofs.TheLink.{table, Below, linked-scene::read_scene}
use Rattle.scene.proofs.read_scene.Symbol.{code as read_scene_code}

pub read_scene : HasAt "scene" table Below read_scene_code
read_scene = linked-scene::read_scene
