-- A scene and the calls of updates after it, one after another through one memory, and what is claimed of them: in the library, and in
-- the show, which asks question 39 after each call. The shapes for the next call are those that the call left, or in the show, where that
-- question is not met, those from before it.
use Rattle.std.specs.Prelude.{ℕ, zero, suc, ◌<◌, ◌^◌, ◌≡◌, List, [], ◌∷◌, ◌++◌, map, Bool, true, length, take}
use Rattle.std.specs.Int.{w8, w64}
use base.Logic.{SProp}
use prog.Memory.{Memory}
use prog.Routine.{Env}
use prog.Wired.{Wired}
use borrow.Fn.World.{World}
use Rattle.position.specs.declared.PositionSyntax.{PositionSyntax}
use Rattle.validation.specs.Validation.{TellsLargest}
use Rattle.book.specs.Step as book
use Rattle.book.specs.Step.{After, Booked, Ran, all_fed}
use Rattle.book.specs.Book.{Packet, packet_of, Given, given_by, is_accepted, scene_step, update_step, Setting, settled, step_in, Meets, book_first, Ranked}
use Rattle.owner.specs.Cells.{Slice, at_block}
use Rattle.owner.specs.Machine.{Writes, AllBelow}
use Rattle.owner.specs.Holds.{◌⊨◌}
use Rattle.runs.specs.Sent.{Variant, Sent, SentFits, SentInCells}
use Rattle.runs.specs.Scene.{scene_code, SceneRead}
use Rattle.runs.specs.Update.{Form, update_code, Handed, HandedFits, all_of, count_of, used, HandedInCells, Updated}

-- a call as it went: the packet that it was fed, and what it gave
abbrev pub Call : Type 0
Call = book.Call Packet Given

-- what the book is fed of a call
abbrev pub packet_sent : Sent → Packet
packet_sent p = packet_of p.bytes.held p.offset p.recording p.words.held

-- The environment γ has the code of each function that is called, with that of all that it calls.
pub record HasCode (γ : Env) : Type 0 where
  pub scenes : (v : Variant) → Wired γ (scene_code v)
  pub updates : (f : Form) → Wired γ (update_code f)

module _ (w : World) (γ : Env) where
  -- what a call gave, and the shapes that it left: of a scene its declared shapes, no more and no fewer than its count, and of an
  -- update all of them, in what it gave back or in its cells
  abbrev pub scene_gave : {v : Variant} {p : Sent} {σ : Memory} {F : SProp w.𝓤} → SceneRead w γ v p σ F → After (List PositionSyntax) Given
  scene_gave {p = p} run = record { told = given_by p.recording run.answer.graph run.words; left = take run.answer.count run.answer.shapes }

  abbrev pub update_gave : {f : Form} {p : Sent} {h : Handed f} {σ : Memory} {F : SProp w.𝓤} → Updated w γ f p h σ F →
      After (List PositionSyntax) Given
  update_gave {f} {p} {h} run = record { told = given_by p.recording run.answer run.words; left = used f h run.shapes }

  -- A call of an update that can be made from the memory σ, which the call before left, on the shapes s. The owner of the memory may have
  -- written to it meanwhile, as one does who puts the next packet there, or shapes that were given back by value, or those from before; the call
  -- finds all the shapes s and no others: by value, or in cells that hold them still.
  pub record Next (σ : Memory) (s : List PositionSyntax) : Type 2 where
    pub form : Form
    pub sent : Sent
    pub handed : Handed form
    pub memory : Memory
    pub beside : SProp w.𝓤
    pub wrote : Writes σ memory
    pub sent_fits : SentFits sent
    pub handed_fits : HandedFits form handed
    pub has : ◌⊨◌ w memory (SentInCells w sent sent.words.held (HandedInCells w form handed (all_of form handed) beside))
    pub count_is : count_of form handed ≡ length s
    pub found : s ≡ used form handed (all_of form handed)

  abbrev pub Run : {σ : Memory} {s : List PositionSyntax} → Next σ s → Type 1
  Run k = Updated w γ k.form k.sent k.handed k.memory k.beside

  module _ (x : Setting) where
    -- A call c of a scene reading that was accepted. Its shapes are s, and it left the memory ρ.
    pub record Accepted (c : Call) (s : List PositionSyntax) (ρ : Memory) : Type 2 where
      pub variant : Variant
      pub sent : Sent
      pub memory : Memory
      pub beside : SProp w.𝓤
      pub run : SceneRead w γ variant sent memory beside
      pub call_is : c ≡ record { fed = packet_sent sent; told = (settled x (packet_sent sent) [] (scene_gave run)).told }
      pub read : is_accepted c.told ≡ true
      pub declared : s ≡ take run.answer.count run.answer.shapes
      pub leaves : ρ ≡ run.memory

    -- the call as it went, and the shapes for the next one
    abbrev pub call_of : {σ : Memory} {s : List PositionSyntax} (k : Next σ s) → Run k → Call
    call_of {s = s} k run = record { fed = packet_sent k.sent; told = (settled x (packet_sent k.sent) s (update_gave run)).told }

    abbrev pub shapes_left : {σ : Memory} {s : List PositionSyntax} (k : Next σ s) → Run k → List PositionSyntax
    shapes_left {s = s} k run = (settled x (packet_sent k.sent) s (update_gave run)).left

    -- Calls one after another, of any form each, from the memory σ and the shapes s to the memory ρ and the shapes t: each begins
    -- from the memory that the one before left, and on the shapes for it.
    pub data Through : Memory → List PositionSyntax → List Call → Memory → List PositionSyntax → Type 2 where
      none : {σ : Memory} {s : List PositionSyntax} → Through σ s [] σ s
      call : {σ ρ : Memory} {s t : List PositionSyntax} {cs : List Call} (k : Next σ s) (run : Run k) →
          Through run.memory (shapes_left k run) cs ρ t → Through σ s (call_of k run ∷ cs) ρ t

    -- the form of each call
    abbrev pub forms : {σ ρ : Memory} {s t : List PositionSyntax} {cs : List Call} → Through σ s cs ρ t → List Form
    forms none = []
    forms (call k run r) = k.form ∷ forms r

    -- an owner who can make n calls: it has one to make, and n - 1 more whatever that one leaves
    abbrev pub Owner : ℕ → Memory → List PositionSyntax → Type 2
    Owner zero σ s = Unit {2}
    Owner (suc n) σ s = (k : Next σ s) × ((run : Run k) → Owner n run.memory (shapes_left k run))

    -- a call c, from whatever memory, that found the shapes s, and t are those for the next one
    pub record Called (s : List PositionSyntax) (c : Call) (t : List PositionSyntax) : Type 2 where
      pub from : Memory
      pub next : Next from s
      pub run : Run next
      pub call_is : c ≡ call_of next run
      pub left_are : t ≡ shapes_left next run

    -- The claim on an accepted scene whose declared shapes are s, and a list of calls after it, with the shapes t after them.
    pub record ListClaim (scene : Call) (s : List PositionSyntax) (cs : List Call) (t : List PositionSyntax) : Type 2 where
      -- the scene's answer and its declared shapes are the book's
      pub scene_is : scene.told ≡ (step_in x scene_step scene.fed []).told
      pub first_are : s ≡ book_first x scene.fed
      -- after the list every position has a rank, and there are as many as were declared
      pub ranked : Ranked t
      pub as_many : length t ≡ length s
      -- The scene's answer has the largest rank of the shapes that it declared. So does that of each call of the list, of the shapes
      -- after this very call: those after the calls before it, changed by it if it was accepted. A refused one has 0. And what was
      -- accepted in the show meets question 39.
      pub scene_tells : TellsLargest scene.told.graph s
      pub scene_meets : Meets x scene.fed scene.told
      pub each_tells : (first rest : List Call) (c : Call) → cs ≡ first ++ (c ∷ rest) →
          (m n : List PositionSyntax) × Ran Called s first m × Called m c n × Ran Called n rest t × TellsLargest c.told.graph n
          × Meets x c.fed c.told
      -- every answer and the shapes are the book's, and the accepted calls alone get the same answers and leave the same shapes
      pub booked : Booked (step_in x update_step) is_accepted Called s cs t

-- A call that is to be made, wherever what it is sent will lie: of a variant of the scene's reading, or of a form of an update.
pub record Wanted (F : Type 0) : Type 0 where
  pub form : F
  pub bytes : List ℕ
  pub offset : ℕ
  pub recording : Bool
  pub words : List ℕ

abbrev pub packet_wanted : {F : Type 0} → Wanted F → Packet
packet_wanted q = packet_of q.bytes q.offset q.recording q.words

-- Bytes are bytes and words are words, no more of them than a slice has, and the offset is a usize.
pub record Possible {F : Type 0} (q : Wanted F) : Type 0 where
  pub bytes : AllBelow w8 q.bytes
  pub bytes_fit : Slice 1 (at_block 0 q.bytes)
  pub offset : q.offset < 2 ^ 64
  pub words : AllBelow w64 q.words
  pub words_fit : Slice 8 (at_block 0 q.words)

abbrev pub AllPossible : {F : Type 0} → List (Wanted F) → Type 0
AllPossible [] = Unit {0}
AllPossible (q ∷ qs) = Possible q × AllPossible qs

-- The calls that were wanted, made one after another from the memory σ on the shapes s.
pub record SentAll (w : World) (γ : Env) (x : Setting) (qs : List (Wanted Form)) (σ : Memory) (s : List PositionSyntax) : Type 2 where
  pub calls : List Call
  pub memory : Memory
  pub shapes : List PositionSyntax
  pub through : Through w γ x σ s calls memory shapes
  pub packets_are : all_fed calls ≡ map packet_wanted qs
  pub forms_are : forms w γ x through ≡ map (λ q. q.form) qs
