-- What is answered of a part, by what its reading and those of the parts before it promise.
use Prim.Native.Nat.{ℕ, suc, ◌+◌, ◌-◌, ◌≤◌, ◌<◌}
use mathlib.Core.Path.{◌≡◌, refl, ◌∙◌, ap}
use mathlib.Core.List.{List, []}
use mathlib.Core.Bool.{Bool, true, false}
use native.Mathlib.Omega.{arith}
use borrow.Author.Tests.{ne_eqb, lt-ltb, le-ltb}
use lib.ListN.{take}
use Rattle.std.specs.Prelude.{Result, Ok, Err}
use Rattle.rules.specs.declared.Answer.{Answer}
use Rattle.rules.specs.declared.Outcome.{Outcome}
use Rattle.rules.specs.declared.reason.Reason.{Reason}
use Rattle.rules.specs.Reason.{number_of, end_of, Refuses}
use Rattle.rules.proofs.Numbered.{numbered}
use Rattle.rules.specs.Reading.{Reading, is_read}
use Rattle.rules.specs.Words.{encoded, recorded}
use Rattle.rules.specs.Answer.{end_outcome}
use Rattle.position.specs.declared.PositionSyntax.{PositionSyntax}
use Rattle.validation.specs.declared.GraphAnswer.{GraphAnswer}
use Rattle.validation.specs.Validation.{GraphAnswered}
use Rattle.scene.specs.declared.SceneAnswer.{SceneAnswer}
use Rattle.scene.specs.Scene.{SceneAnswered}
use Rattle.book.specs.Step.{book_state}
use Rattle.book.specs.Book.{is_accepted, scene_step, show, step_in, scene_part, update_part, book_shapes}
use Rattle.book.proofs.Book.{scene_answer, scene_declares, update_left}
use Rattle.show_header.specs.Header.{part_count, file_question}
use Rattle.show_parts.specs.Parts.{packet, packets}
use Rattle.part_fields.specs.declared.NotRead.{NotRead}
use Rattle.part_fields.specs.declared.NotRead.TheVariants.{NoPart, NoScene}
use Rattle.part_fields.specs.Part.{listed, unlisted, shapes_before, part_from, update_listed, sound_listed, part_listed, PartAnswered}

-- the shapes that the parts from i up to k leave: one of them, and those after it
module _ (file : List ℕ) (k i : ℕ) (s : List PositionSyntax) where
  pub shapes_more : i < k → {a : GraphAnswer} {t : List PositionSyntax} {vs : List ℕ} → GraphAnswered (update_part (packet file i) s) s false [] a t vs →
      book_shapes show (packets file (k - (i + 1)) (i + 1)) t ≡ book_shapes show (packets file (k - i) i) s
  unfolding packets book_state
  shapes_more h y = let more : k - i ≡ suc (k - (i + 1)) = omega arith in rw (more, update_left (packet file i) y)

  pub shapes_end : k ≤ i → s ≡ book_shapes show (packets file (k - i) i) s
  unfolding packets book_state
  shapes_end h = let none : k - i ≡ 0 = omega arith in rw none

-- the answer of a reading, and of a part that is not read: its words are left alone
read_answered : {x : Reading (List PositionSyntax)} {a v : List PositionSyntax} {ws vs : List ℕ} {r : GraphAnswer} → GraphAnswered x a true ws r v vs →
    PartAnswered (listed x) ws (Ok r.answer) vs
read_answered y = record { answer = ap Ok y.answered.answer; words = y.answered.words }

unread_answered : {a : NotRead} {ws : List ℕ} → PartAnswered (unlisted a) ws (Err a) ws
unfolding recorded encoded
unread_answered = record { answer = refl; words = refl }

-- whether the scene was read, by its answer
scene_told : (file : List ℕ) {scene : SceneAnswer} {us : List ℕ} → SceneAnswered (scene_part (packet file 0)) false [] scene us → {b : Bool} →
    is_read scene.graph.answer.outcome ≡ b → is_accepted (step_in show scene_step (packet file 0) []).told ≡ b
scene_told file y h = rw (scene_answer (packet file 0) y) at h

module _ (file : List ℕ) (k offset : ℕ) {ws : List ℕ} where
  -- an update, by what the scene answered, and the shapes that the parts between them left
  module _ {scene : SceneAnswer} {us : List ℕ} (y : SceneAnswered (scene_part (packet file 0)) false [] scene us) where
    pub update_answered : is_read scene.graph.answer.outcome ≡ true → {shapes next : List PositionSyntax} →
        shapes ≡ book_shapes show (packets file (k - 1) 1) (take scene.count scene.shapes) → {vs : List ℕ} {r : GraphAnswer} →
        GraphAnswered (update_part (part_from file k offset ws) shapes) shapes true ws r next vs →
        PartAnswered (update_listed file k (part_from file k offset ws)) ws (Ok r.answer) vs
    unfolding update_listed shapes_before
    update_answered h {shapes = shapes} e z =
        let before : shapes ≡ shapes_before file k = e ∙ ap (book_shapes show (packets file (k - 1) 1)) (scene_declares (packet file 0) y) in
        rw (scene_told file y h, ← before) (read_answered z)

    pub scene_unread : is_read scene.graph.answer.outcome ≡ false → PartAnswered (update_listed file k (part_from file k offset ws)) ws (Err NoScene) ws
    unfolding update_listed
    scene_unread h = rw (scene_told file y h) unread_answered

  -- a part of a file whose header is sound
  module _ {n : ℕ} (e : n ≡ part_count file) where
    pub no_part : n ≤ k → PartAnswered (sound_listed file k (part_from file k offset ws)) ws (Err NoPart) ws
    unfolding sound_listed
    no_part h = rw (← e, le-ltb k n h) unread_answered

    pub scene_answered : k < n → k ≡ 0 → {vs : List ℕ} {r : SceneAnswer} → SceneAnswered (scene_part (part_from file 0 offset ws)) true ws r vs →
        PartAnswered (sound_listed file k (part_from file k offset ws)) ws (Ok r.graph.answer) vs
    unfolding sound_listed
    scene_answered h z y = rw (z, ← e, lt-ltb 0 n (omega arith)) (read_answered y.answered)

    pub other_answered : k < n → (k ≡ 0 → ⊥) → {vs : List ℕ} {r : Result Answer NotRead} →
        PartAnswered (update_listed file k (part_from file k offset ws)) ws r vs → PartAnswered (sound_listed file k (part_from file k offset ws)) ws r vs
    unfolding sound_listed
    other_answered h z y = rw (← e, lt-ltb k n h, ne_eqb k 0 z) y

  -- any file
  pub sound_answered : 0 ≡ file_question file → {vs : List ℕ} {r : Result Answer NotRead} → PartAnswered (sound_listed file k (part_from file k offset ws)) ws r vs →
      PartAnswered (part_listed file k (part_from file k offset ws)) ws r vs
  unfolding part_listed
  sound_answered e y = rw (← e) y

  pub file_refused : (reason : Reason) → number_of reason ≡ file_question file → Refuses reason → {o : Outcome} → o ≡ end_outcome (end_of reason) →
      PartAnswered (part_listed file k (part_from file k offset ws)) ws (Ok (record { outcome = o; position = 0; fields = 0 })) ws
  unfolding part_listed recorded encoded
  file_refused reason e refuses told =
      rw (← e, numbered reason, told, refuses) (record { answer = refl; words = refl })
