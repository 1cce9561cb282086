-- What is claimed of the show: the text that `show` leaves in memory tells the answers that calls on its parts get, each on the shapes
-- for it, and the parents and ranks of the shapes after the last. A call after which question 39 is not met is told as refused by it, and the
-- next call is on the shapes from before.
use Rattle.std.specs.Prelude.{ℕ, ◌-◌, ◌≡◌, List, [], ◌∷◌, ◌++◌, false, take}
use mir.Val.{Val}
use base.Logic.{SProp}
use prog.Memory.{Memory}
use prog.Routine.{Env}
use borrow.Fn.World.{World}
use Rattle.position.specs.declared.PositionSyntax.{PositionSyntax}
use Rattle.ranks.specs.Rank.{Ranks, Largest, rank_of}
use Rattle.validation.specs.Validation.{parents, largest_rank}
use Rattle.text.proofs.TextAnswer.TheLaws as text-answer
use Rattle.book.specs.Step.{all_fed, all_told}
use Rattle.book.specs.Book.{Given, is_accepted, show, settled}
use Rattle.show_header.specs.Header.{part_count, file_question}
use Rattle.show_parts.specs.Parts.{packet, packets}
use Rattle.show_lines.specs.Lines.{part_line, shapes_text}
use Rattle.show.specs.Show.{part_lines, show_text}
use Rattle.show.proofs.show.Symbol.{name as show_name}
use Rattle.owner.specs.Cells.{slice, pointer}
use Rattle.owner.specs.Machine.{Ran}
use Rattle.owner.specs.Holds as holds
use Rattle.runs.specs.Sent.{Variant, Sent}
use Rattle.runs.specs.Scene.{SceneRead}
use Rattle.printed_runs.specs.Show.{Showing, ShowingFits, ShowInCells, Shown}
use Rattle.claims.specs.Calls.{Call, packet_sent, scene_gave, Accepted, Through}

module _ (w : World) (γ : Env) where
  abbrev Beside : Type 2
  Beside = SProp w.𝓤

  abbrev ◌⊨◌ : Memory → SProp w.𝓤 → Type 1
  σ ⊨ P = holds.◌⊨◌ w σ P

  infix 26 ◌⊨◌
  -- the text that a run left at the beginning of the lent bytes
  abbrev pub text_of : {p : Showing} {σ : Memory} {F : Beside} → Shown w γ p σ F → List ℕ
  text_of run = take run.answer.length run.text

  pub record ShowClaim : Type 2 where
    -- Whoever has a file and the bytes for its text in the cells of a memory, and anything else beside them, may call `show`. It
    -- returns, its memory holds the text that is defined, and the machine has no other end for it.
    pub every_show : (p : Showing) → ShowingFits p → (σ : Memory) (F : Beside) → σ ⊨ ShowInCells w p p.text.held F → ∥ Shown w γ p σ F ∥₁
    pub one_show : (p : Showing) (σ : Memory) (F : Beside) (run : Shown w γ p σ F) (v : Val) (ρ : Memory) →
        Ran (γ show_name) (slice p.file ∷ pointer p.text ∷ []) σ v ρ →
        ◌≡◌ {A = Val × Memory} (v, ρ) (text-answer.lowered run.answer, run.memory)
    pub defined : (p : Showing) (σ : Memory) (F : Beside) (run : Shown w γ p σ F) → text_of run ≡ show_text p.file.held
    -- A file that is not refused. If a reading of part 0 as a scene is not accepted in the show, its answer is all that is told.
    pub refused : (p : Showing) (σ : Memory) (F : Beside) (run : Shown w γ p σ F) → file_question p.file.held ≡ 0 →
        (x : Variant) (q : Sent) (π : Memory) (G : Beside) (scene : SceneRead w γ x q π G) → packet_sent q ≡ packet p.file.held 0 →
        (told : Given) → told ≡ (settled show (packet_sent q) [] (scene_gave w γ scene)).told → is_accepted told ≡ false →
        text_of run ≡ part_line 0 told.graph.answer
    -- If it is, and updates were called on the other parts, one after another through one memory, each on the shapes for it in the show,
    -- then the answers that are told are theirs, and the positions those of the shapes after the last ..
    pub told : (p : Showing) (σ : Memory) (F : Beside) (run : Shown w γ p σ F) → file_question p.file.held ≡ 0 →
        (scene : Call) (s t : List PositionSyntax) (π ρ : Memory) (cs : List Call) → Accepted w γ show scene s π →
        Through w γ show π s cs ρ t → scene.fed ≡ packet p.file.held 0 →
        all_fed cs ≡ packets p.file.held (part_count p.file.held - 1) 1 →
        text_of run ≡ part_line 0 scene.told.graph.answer ++ (part_lines 1 (all_told cs) ++ shapes_text t)
    -- .. which have the ranks that are told, and of these the largest.
    pub ranks : (scene : Call) (s t : List PositionSyntax) (π ρ : Memory) (cs : List Call) → Accepted w γ show scene s π →
        Through w γ show π s cs ρ t → Ranks (parents t) (rank_of (parents t)) × Largest (parents t) (rank_of (parents t)) (largest_rank t)
