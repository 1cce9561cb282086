-- What is claimed of `scene-fields`: the lines that its calls put are the listing of the reading that the rules define.
use Rattle.std.specs.Prelude.{ℕ, zero, suc, ◌+◌, ◌≡◌, List, [], ◌++◌, true, Ok, length, take}
use base.Logic.{SProp}
use Rattle.std.specs.Borrow.{Share}
use prog.Memory.{Memory}
use prog.Routine.{Env}
use prog.Wired.{Wired}
use borrow.Fn.World.{World}
use Rattle.rules.specs.declared.Answer.{Answer}
use Rattle.scene.specs.Scene.{scene_reading}
use Rattle.metadata.specs.Entry.{metadata_reading}
use Rattle.metadata.proofs.read_metadata.Symbol.{code as metadata_code}
use Rattle.known_names.specs.Known.{Explained}
use Rattle.listing.specs.Listing.{listing}
use Rattle.part_fields.specs.Part.{Listed, part_from, part_listed}
use Rattle.part_fields.proofs.read_part.Symbol.{code as part_code}
use Rattle.listing_claims.specs.Printed.{part_listing}
use Rattle.owner.specs.Cells.{Cells, refilled}
use Rattle.owner.specs.Holds as holds
use Rattle.runs.specs.Sent.{Variant, Sent, SentFits, input_sent, SentInCells}
use Rattle.runs.specs.Scene.{SceneRead}
use Rattle.printed_runs.specs.Metadata.{MetadataRead}
use Rattle.printed_runs.specs.Show.{Asked, AskedFits, AskedInCells, PartRead}
use Rattle.printed_runs.specs.Line.{Line, of_field, of_outcome, line_code, LineFits, LineInCells, LinePut}

-- what is listed of a part that is asked for
abbrev pub listed_of : Asked → Listed
listed_of p = part_listed p.file.held p.part (part_from p.file.held p.part p.offset p.words.held)

-- The environment γ has the code of each function that is called, with that of all that it calls.
pub record HasListingCode (γ : Env) : Type 0 where
  pub metadata : Wired γ metadata_code
  pub part : Wired γ part_code
  pub lines : (x : Line) → Wired γ (line_code x)

module _ (w : World) (γ : Env) where
  abbrev Beside : Type 2
  Beside = SProp w.𝓤

  abbrev ◌⊨◌ : Memory → SProp w.𝓤 → Type 1
  σ ⊨ P = holds.◌⊨◌ w σ P

  infix 26 ◌⊨◌
  -- the line that a call left at the beginning of the lent bytes
  abbrev pub line_of : {x : Line} {bytes : Cells ℕ} {σ : Memory} {F : Beside} → LinePut w γ x bytes σ F → List ℕ
  line_of run = take run.put run.bytes

  -- The lines of n fields of the words, from field i on, each put by a call from whatever memory has the words and room for a line.
  pub data Lines (words : Cells ℕ) : ℕ → ℕ → List ℕ → Type 2 where
    none : {i : ℕ} → Lines words zero i []
    line : {n i : ℕ} {rest : List ℕ} {share : Share} {bytes : Cells ℕ} {σ : Memory} {F : Beside} →
        (run : LinePut w γ (of_field share words i) bytes σ F) → Lines words n (i + 1) rest → Lines words (suc n) i (line_of run ++ rest)

  -- All that is put of an answer and the words of its fields: the lines of the fields counted, and that of the outcome.
  pub record PutOut (answer : Answer) (words : Cells ℕ) (text : List ℕ) : Type 2 where
    pub lines : List ℕ
    pub of_fields : Lines words answer.fields 0 lines
    pub bytes : Cells ℕ
    pub memory : Memory
    pub beside : Beside
    pub outcome : LinePut w γ (of_outcome answer) bytes memory beside
    pub text_is : text ≡ lines ++ line_of outcome

  -- Of a scene, a metadata configuration and a part of a show that was read: what is put is the listing, and a number that is told
  -- has words.
  pub record ListingClaim : Type 2 where
    -- Whoever has what a call asks for in the cells of a memory, and anything else beside it, may call, and the call returns. (Of a
    -- scene that is demand 3's `every_scene`.)
    pub every_metadata : (p : Sent) → SentFits p → (σ : Memory) (F : Beside) → σ ⊨ SentInCells w p p.words.held F → ∥ MetadataRead w γ p σ F ∥₁
    pub every_part : (p : Asked) → AskedFits p → (σ : Memory) (F : Beside) → σ ⊨ AskedInCells w p p.words.held F → ∥ PartRead w γ p σ F ∥₁
    pub every_line : (x : Line) → LineFits x → (bytes : Cells ℕ) → length bytes.held ≡ 256 → (σ : Memory) (F : Beside) →
        σ ⊨ LineInCells w x bytes F → ∥ LinePut w γ x bytes σ F ∥₁
    pub scene_listed : (x : Variant) (p : Sent) (σ : Memory) (F : Beside) (run : SceneRead w γ x p σ F) → p.recording ≡ true →
        (text : List ℕ) → PutOut run.answer.graph.answer (refilled p.words run.words) text →
        text ≡ listing (scene_reading (input_sent p) p.offset)
    pub scene_explained : (x : Variant) (p : Sent) (σ : Memory) (F : Beside) (run : SceneRead w γ x p σ F) →
        Explained run.answer.graph.answer.outcome
    pub metadata_listed : (p : Sent) (σ : Memory) (F : Beside) (run : MetadataRead w γ p σ F) → p.recording ≡ true →
        (text : List ℕ) → PutOut run.answer (refilled p.words run.words) text → text ≡ listing (metadata_reading (input_sent p) p.offset)
    pub metadata_explained : (p : Sent) (σ : Memory) (F : Beside) (run : MetadataRead w γ p σ F) → Explained run.answer.outcome
    pub part_listed : (p : Asked) (σ : Memory) (F : Beside) (run : PartRead w γ p σ F) (answer : Answer) → run.answer ≡ Ok answer →
        (text : List ℕ) → PutOut answer (refilled p.words run.words) text → text ≡ part_listing (listed_of p)
    pub part_explained : (p : Asked) (σ : Memory) (F : Beside) (run : PartRead w γ p σ F) (answer : Answer) → run.answer ≡ Ok answer →
        Explained answer.outcome
