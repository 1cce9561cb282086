-- Whoever owns the cells may call, and the call returns: the two functions that read a scene, from their own theorems.
use Prim.Native.Nat.{ℕ}
use mathlib.Core.Path.{◌≡◌, refl, subst}
use mathlib.Core.List.{List, [], ◌∷◌}
use mathlib.Core.Bool.{Bool}
use mathlib.Core.Logic.{∥∥₁_map}
use mir.Val.{Val}
use base.Logic.{SProp}
use prog.Memory.{Memory}
use prog.Routine.{Env}
use prog.Wired.{Wired}
use denote.RattleType.{RattleType}
use denote.Laws.{Is, Typed}
use denote.Struct.Laws.{lawful}
use borrow.Fn.World.{World}
use Rattle.rules.specs.Reading.{Reading}
use Rattle.position.specs.declared.PositionSyntax.{PositionSyntax}
use Rattle.scene.specs.declared.SceneAnswer.{SceneAnswer}
use Rattle.scene.specs.Scene.{scene_reading, SceneAnswered}
use Rattle.scene.specs.contracts.SceneAnswer as scene-row
use Rattle.scene.proofs.SceneAnswer.TheLaws as scene-laws
use Rattle.scene.specs.contracts.read_scene as read
use Rattle.scene.proofs.read_scene.Met.{met as read-met}
use Rattle.gateway.specs.declared.GatewayScene.{GatewayScene}
use Rattle.gateway.specs.Exported.{SceneExported}
use Rattle.gateway.specs.contracts.GatewayScene as exported-row
use Rattle.gateway.proofs.GatewayScene.TheLaws as exported-laws
use Rattle.gateway.specs.contracts.gateway_scene as gateway
use Rattle.gateway.proofs.gateway_scene.Met.{met as gateway-met}
use Rattle.owner.specs.Machine.{Ran}
use Rattle.owner.specs.Holds.{◌⊨◌}
use Rattle.owner.proofs.Loans.{Kind}
use Rattle.owner.proofs.Owner.{T, Says}
use Rattle.owner.proofs.Returns.{reading}
use Rattle.runs.specs.Sent.{Variant, plain, exported, Sent, SentFits, passed, AllFit, SentInCells}
use Rattle.runs.specs.Scene.{scene_routine, scene_code, SceneRead}
use Rattle.runs.proofs.Sent.{sent_kinds, words_left, input_in, offset_in, recording_in, words_in, array_fits, sent_runs}

abbrev kinds : List (Kind 2)
kinds = sent_kinds 2 tt tt []

-- the parameters and the contracts are the functions' own
read_is : T 2 kinds scene-row.the_row ≡ read.ended
read_is = refl

gateway_is : T 2 kinds exported-row.the_row ≡ gateway.ended
gateway_is = refl

-- both promise something of the scene's reading
abbrev says : (R : RattleType) → (Reading (List PositionSyntax) → Bool → List ℕ → R.Denot → List ℕ → Type 0) → Says 2 kinds R
says R Promised x r l = Promised (scene_reading (input_in x) (offset_in x)) (recording_in x) (words_in x) r (words_left 2 tt tt [] l)

module _ (w : World) where
  read_typed : (a : SceneAnswer) (vs : List Val) → Is scene-row.the_row a vs → Typed (scene-row.the_row).mir vs
  read_typed = (lawful scene-row.the_type scene-laws.the_laws w.𝓛).typed

  read_fit : (a : SceneAnswer) → Is scene-row.the_row a (scene-laws.lowered a ∷ []) → AllFit a.shapes
  read_fit a is = array_fits a.shapes (read_typed a (scene-laws.lowered a ∷ []) is).0.1.1.1.0

  exported_typed : (a : GatewayScene) (vs : List Val) → Is exported-row.the_row a vs → Typed (exported-row.the_row).mir vs
  exported_typed = (lawful exported-row.the_type exported-laws.the_laws w.𝓛).typed

  exported_fit : (a : GatewayScene) → Is exported-row.the_row a (exported-laws.lowered a ∷ []) → AllFit a.shapes
  exported_fit a is = array_fits a.shapes (exported_typed a (exported-laws.lowered a ∷ []) is).0.1.1.1.0

  pub scene_reads : (γ : Env) (v : Variant) → Wired γ (scene_code v) → (p : Sent) → SentFits p → (σ : Memory) (F : SProp w.𝓤) → ◌⊨◌ w σ (SentInCells w p p.words.held F) →
      ∥ SceneRead w γ v p σ F ∥₁
  scene_reads γ plain has p ok σ F holds =
      ∥∥₁_map (sent_runs w 2 tt tt [] tt scene-row.the_row scene-laws.lowered (scene_routine γ plain) (says scene-row.the_row SceneAnswered)
      (scene-laws.lowers).val_is (read-met w.𝓤 w.𝓛 w.𝓜 (reading w γ) has) tt p ok tt tt σ F holds) (λ t. record {
        answer = t.result;
        words = words_left 2 tt tt [] t.left;
        memory = t.memory;
        ran = t.ran;
        words_many = t.as_many.1.1.1.0;
        shapes_fit = read_fit t.result t.stands_for;
        holds = t.holds;
        answered = t.ensured;
      })
  scene_reads γ exported has p ok σ F holds =
      ∥∥₁_map (sent_runs w 2 tt tt [] tt exported-row.the_row exported-laws.lowered (scene_routine γ exported) (says exported-row.the_row SceneExported)
      (exported-laws.lowers).val_is (gateway-met w.𝓤 w.𝓛 w.𝓜 (reading w γ) has) tt p ok tt tt σ F holds) (λ t.
      let Returns : GatewayScene → Type 0 = λ r. Ran (scene_routine γ exported) (passed p []) σ (exported-laws.lowered r) t.memory in
      let Fits : GatewayScene → Type 0 = λ r. AllFit r.shapes in
      record {
        answer = t.ensured.scene;
        words = words_left 2 tt tt [] t.left;
        memory = t.memory;
        ran = subst Returns t.ensured.same t.ran;
        words_many = t.as_many.1.1.1.0;
        shapes_fit = subst Fits t.ensured.same (exported_fit t.result t.stands_for);
        holds = t.holds;
        answered = t.ensured.answered;
      })
