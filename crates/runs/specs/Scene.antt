-- A run of a function that reads a scene.
use Rattle.std.specs.Prelude.{ℕ, ◌≡◌, List, [], length}
use mir.Val.{Val}
use base.Logic.{SProp}
use prog.Memory.{Memory}
use prog.Routine.{Env, Routine}
use prog.Wired.{Code}
use borrow.Fn.World.{World}
use Rattle.scene.specs.declared.SceneAnswer.{SceneAnswer}
use Rattle.scene.specs.Scene.{scene_reading, SceneAnswered}
use Rattle.scene.proofs.SceneAnswer.TheLaws as answer
use Rattle.scene.proofs.read_scene.Symbol.{name as read_scene, code as read_scene_code}
use Rattle.gateway.specs.declared.GatewayScene.{GatewayScene}
use Rattle.exported.specs.Exported.{exported_graph}
use Rattle.gateway.proofs.GatewayScene.TheLaws as exported-answer
use Rattle.gateway.proofs.gateway_scene.Symbol.{name as gateway_scene, code as gateway_scene_code}
use Rattle.owner.specs.Machine.{Ran}
use Rattle.owner.specs.Holds.{◌⊨◌}
use Rattle.runs.specs.Sent.{Variant, plain, exported, Sent, passed, input_sent, AllFit, SentInCells}

-- `scene::read_scene`, and `gateway_scene`, as they are in the environment γ; and the code that γ has of each, with that of what it
-- calls, where it is `Wired` for it
abbrev pub scene_routine : Env → Variant → Routine
scene_routine γ plain = γ read_scene
scene_routine γ exported = γ gateway_scene

abbrev pub scene_code : Variant → Code
scene_code plain = read_scene_code
scene_code exported = gateway_scene_code

abbrev pub exported_scene : SceneAnswer → GatewayScene
exported_scene a = record { answer = exported_graph a.graph; count = a.count; shapes = a.shapes }

-- the machine's value of an answer
abbrev pub scene_value : Variant → SceneAnswer → Val
scene_value plain a = answer.lowered a
scene_value exported a = exported-answer.lowered (exported_scene a)

-- A run from the memory σ, beside F. It ends, with the machine's value of an answer, in a memory that holds the bytes as they
-- were, the words as they were left, no more and no fewer, and F as it was; and the answer and the words are as the scene's
-- reading has them.
pub record SceneRead (w : World) (γ : Env) (v : Variant) (p : Sent) (σ : Memory) (F : SProp w.𝓤) : Type 1 where
  pub answer : SceneAnswer
  pub words : List ℕ
  pub memory : Memory
  pub ran : Ran (scene_routine γ v) (passed p []) σ (scene_value v answer) memory
  pub words_many : length words ≡ length p.words.held
  pub shapes_fit : AllFit (answer).shapes
  pub holds : ◌⊨◌ w memory (SentInCells w p words F)
  pub answered : SceneAnswered (scene_reading (input_sent p) p.offset) p.recording p.words.held answer words
