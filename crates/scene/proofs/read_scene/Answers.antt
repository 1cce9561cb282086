use mathlib.Core.Path.{refl}
use native.Mathlib.Omega.{arith}
use borrow.Author.Rules.{rules}
use Rattle.scene.proofs.Scenes.{defaults_length, scene_answered}
use Rattle.scene.proofs.read_scene.Goals as goal

pub returns-in-Err : goal.returns-in-Err
returns-in-Err c = rw c.defaults.ensures (scene_answered defaults_length (omega arith) (search rules) refl)
