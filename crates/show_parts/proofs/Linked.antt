-- A program that has this crate's table, and the code of what the crate calls, has the code of these functions: for the crate `linked`.
use Rattle.rules.proofs.Table.{HasAt}
use Rattle.show_parts.proofs.TheLink.{table, Below, linked-show_parts::scene_part, linked-show_parts::show_scene, linked-show_parts::show_update, linked-show_parts::update_part}
use Rattle.show_parts.proofs.scene_part.Symbol.{code as scene_part_code}
use Rattle.show_parts.proofs.show_scene.Symbol.{code as show_scene_code}
use Rattle.show_parts.proofs.show_update.Symbol.{code as show_update_code}
use Rattle.show_parts.proofs.update_part.Symbol.{code as update_part_code}

pub scene_part : HasAt "show_parts" table Below scene_part_code
scene_part = linked-show_parts::scene_part

pub show_scene : HasAt "show_parts" table Below show_scene_code
show_scene = linked-show_parts::show_scene

pub show_update : HasAt "show_parts" table Below show_update_code
show_update = linked-show_parts::show_update

pub update_part : HasAt "show_parts" table Below update_part_code
update_part = linked-show_parts::update_part
