-- Demand 3, of the functions themselves, as the owner of a memory has it, in the library and in the show. docs/DECISIONS.md holds it
-- beside the customer's words.
use Rattle.std.specs.Prelude.{ℕ, ◌≡◌, List, [], map, ◌↔◌, length}
use mir.Syntax.{Ty}
use mir.Val.{Val}
use base.Logic.{SProp, sep}
use Rattle.std.specs.Borrow.{Share}
use prog.Memory.{Memory}
use prog.Routine.{Env}
use borrow.Fn.World.{World}
use Rattle.position.specs.declared.PositionSyntax.{PositionSyntax}
use Rattle.validation.specs.Validation.{RefusedForParents}
use Rattle.book.specs.Book.{Setting, settled, Ranked, SceneWouldGive, PacketWouldGive}
use Rattle.owner.specs.Cells.{Cells}
use Rattle.owner.specs.Machine.{Ran, Loads}
use Rattle.owner.specs.Holds as holds
use Rattle.runs.specs.Sent.{Variant, Sent, SentFits, passed, SentInCells}
use Rattle.runs.specs.Scene.{scene_routine, scene_value, SceneRead}
use Rattle.runs.specs.Update.{Form, Handed, HandedFits, handed_values, all_of, count_of, used, HandedInCells, update_routine, update_value, Updated}
use Rattle.claims.specs.Calls.{Call, packet_sent, scene_gave, update_gave, Accepted, Through, Owner, ListClaim, Wanted, packet_wanted, Possible, AllPossible, SentAll}

module _ (w : World) (γ : Env) where
  -- what else an owner has in its memory
  abbrev Beside : Type 2
  Beside = SProp w.𝓤

  abbrev ◌⊨◌ : Memory → SProp w.𝓤 → Type 1
  σ ⊨ P = holds.◌⊨◌ w σ P

  infix 26 ◌⊨◌
  pub record Demand3 : Type 2 where
    -- Whoever has bytes and words, and for an update shapes, in the cells of a memory, and anything else beside them, may call. The
    -- call returns: `SceneRead` and `Updated` say what, and what the memory then holds.
    pub every_scene : (x : Variant) (p : Sent) → SentFits p → (σ : Memory) (F : Beside) → σ ⊨ SentInCells w p p.words.held F →
        ∥ SceneRead w γ x p σ F ∥₁
    pub every_call : (f : Form) (p : Sent) → SentFits p → (h : Handed f) → HandedFits f h → (σ : Memory) (F : Beside) →
        σ ⊨ SentInCells w p p.words.held (HandedInCells w f h (all_of f h) F) → ∥ Updated w γ f p h σ F ∥₁
    -- and the machine has no other end for it
    pub one_scene : (x : Variant) (p : Sent) (σ : Memory) (F : Beside) (run : SceneRead w γ x p σ F) (v : Val) (ρ : Memory) →
        Ran (scene_routine γ x) (passed p []) σ v ρ → ◌≡◌ {A = Val × Memory} (v, ρ) (scene_value x run.answer, run.memory)
    pub one_call : (f : Form) (p : Sent) (h : Handed f) (σ : Memory) (F : Beside) (run : Updated w γ f p h σ F) (v : Val) (ρ : Memory) →
        Ran (update_routine γ f) (passed p (handed_values f h)) σ v ρ →
        ◌≡◌ {A = Val × Memory} (v, ρ) (update_value f run.answer run.shapes, run.memory)
    -- So whoever has a call to make after each call makes a list of any length.
    pub every_list : (x : Setting) (n : ℕ) (σ : Memory) (s : List PositionSyntax) → Owner w γ x n σ s →
        ∥ ((cs : List Call) × (ρ : Memory) × (t : List PositionSyntax) × Through w γ x σ s cs ρ t × (length cs ≡ n)) ∥₁
    -- And there are memories for all of it: for any scene, and after any accepted one for any list of packets, of whatever bytes and
    -- other arguments, each sent to a function of whatever form.
    pub any_scene : (q : Wanted Variant) → Possible q →
        ∥ ((p : Sent) × (σ : Memory) × (F : Beside) × (packet_sent p ≡ packet_wanted q) × SceneRead w γ q.form p σ F) ∥₁
    pub any_list : (x : Setting) (scene : Call) (s : List PositionSyntax) (σ : Memory) → Accepted w γ x scene s σ →
        (qs : List (Wanted Form)) → AllPossible qs → ∥ SentAll w γ x qs σ s ∥₁
    -- What a memory holds in cells is what the machine's loads from them give.
    pub loaded : {X : Type 0} (τ : Ty) (low : X → Val) (q : Share) (c : Cells X) (σ : Memory) (F : Beside) →
        σ ⊨ sep w.𝓤 (holds.Laid w τ low q c) F → ∥ Loads σ τ c.block c.offset (map low c.held) ∥₁
    -- Any accepted scene and any list of calls after it, from the memory that the scene left.
    pub lists : (x : Setting) (scene : Call) (s t : List PositionSyntax) (σ ρ : Memory) (cs : List Call) → Accepted w γ x scene s σ →
        Through w γ x σ s cs ρ t → ListClaim w γ x scene s cs t
    -- the declared shapes are as many as the scene's count says
    pub counts : (x : Setting) (scene : Call) (s : List PositionSyntax) (σ : Memory) (a : Accepted w γ x scene s σ) →
        a.run.answer.count ≡ length s
    -- A scene, or a packet on whatever shapes, otherwise read to its end is refused for its parents exactly if no ranks exist for
    -- the parents that it would give.
    pub scene_refusals : (x : Setting) (v : Variant) (p : Sent) (σ : Memory) (F : Beside) (run : SceneRead w γ v p σ F)
        (next : List PositionSyntax) → SceneWouldGive (packet_sent p) next →
        RefusedForParents (settled x (packet_sent p) [] (scene_gave w γ run)).told.graph.answer.outcome ↔ (¬ Ranked next)
    pub packet_refusals : (x : Setting) (f : Form) (p : Sent) (h : Handed f) (σ : Memory) (F : Beside) (run : Updated w γ f p h σ F)
        (next : List PositionSyntax) → PacketWouldGive (packet_sent p) (count_of f h) (used f h (all_of f h)) next →
        RefusedForParents (settled x (packet_sent p) (used f h (all_of f h)) (update_gave w γ run)).told.graph.answer.outcome
        ↔ (¬ Ranked next)
