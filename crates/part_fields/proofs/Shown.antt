-- What is listed of a part from bit 0 on is what the show prints of it, if at least 81,920 words are lent.
use Prim.Native.Nat.{ℕ, zero, suc, ◌+◌, ◌-◌, ◌≤◌, ◌<◌}
use mathlib.Core.Path.{◌≡◌, sym, ◌∙◌, ap}
use mathlib.Core.List.{List, []}
use mathlib.Core.Bool.{true}
use native.Mathlib.Omega.{arith}
use borrow.Author.Tests.{lt-ltb, ne_eqb}
use lib.ListN.{length, get_or}
use Rattle.std.specs.Prelude.{Ok}
use Rattle.position.specs.declared.PositionSyntax.{PositionSyntax}
use Rattle.book.specs.Step.{book_told, book_state}
use Rattle.book.specs.Book.{Given, is_accepted, scene_step, update_step, show, step_in}
use Rattle.book.specs.Book.{scene_part, update_part, book_first, book_answers, book_shapes}
use Rattle.book.proofs.Book.{scene_part_step, update_part_step, scene_enough, update_enough}
use Rattle.show_header.specs.Header.{part_count, part_of, file_question}
use Rattle.show_parts.specs.Parts.{packet, packets}
use Rattle.show_header.proofs.Sound.{sound_if, question_met}
use Rattle.part_fields.specs.Part.{Listed, shapes_before, part_from, update_listed, sound_listed, part_listed}

-- the j-th answer to the parts from i on: that part's, on the shapes that those before it left
answer_at : (file : List ℕ) (n i j : ℕ) (s : List PositionSyntax) (d : Given) → j < n →
    get_or (book_answers show (packets file n i) s) j d
    ≡ (step_in show update_step (packet file (i + j)) (book_shapes show (packets file j i) s)).told
unfolding packets book_told book_state
answer_at file zero i j s d h = absurd (omega arith)
answer_at file (suc n) i zero s d h = let e : i + 0 ≡ i = omega arith in rw e
answer_at file (suc n) i (suc j) s d h =
    let e : i + suc j ≡ i + 1 + j = omega arith in
    rw e (answer_at file n (i + 1) j (step_in show update_step (packet file i) s).left d (omega arith))

-- what the show reads of a file that is not refused: part 0, and part k if the scene was read
module _ (file : List ℕ) (k : ℕ) (met : file_question file ≡ 0) where
  scene_off : k ≡ 0 → (part_listed file k (packet file k)).answer ≡ Ok (step_in show scene_step (packet file 0) []).told.graph.answer
  unfolding part_listed sound_listed
  scene_off z = rw (z, scene_part_step (packet file 0) [], met, lt-ltb 0 (part_count file) (sound_if file (question_met file met)).some)

  update_off : is_accepted (step_in show scene_step (packet file 0) []).told ≡ true → 1 ≤ k → k < part_count file →
      (part_listed file k (packet file k)).answer ≡ Ok (step_in show update_step (packet file k) (shapes_before file k)).told.graph.answer
  unfolding part_listed sound_listed update_listed
  update_off read some h = let z : k ≡ 0 → ⊥ = λ e. omega arith in
      rw (met, lt-ltb k (part_count file) h, ne_eqb k 0 z, read, update_part_step (packet file k) (shapes_before file k))

module _ (file ws : List ℕ) (k : ℕ) (room : 81920 ≤ length ws) where
  -- With so many words recording changes no reading ..
  scene_same : scene_part (part_from file k 0 ws) ≡ scene_part (packet file k)
  scene_same = scene_enough (part_of file k) 0 ws [] room

  update_same : (s : List PositionSyntax) → update_part (part_from file k 0 ws) s ≡ update_part (packet file k) s
  update_same = update_enough (part_of file k) 0 ws [] room

  -- .. and what is listed is what the show reads.
  pub listed_off : part_listed file k (part_from file k 0 ws) ≡ part_listed file k (packet file k)
  unfolding part_listed sound_listed update_listed
  listed_off = rw (scene_same, update_same (shapes_before file k))

  -- So the answer is the one in the line of part 0, or in the line of part k: of the answers that are printed after the
  -- scene's, the one of index k - 1.
  module _ (met : file_question file ≡ 0) where
    pub shown_scene : k ≡ 0 →
        (part_listed file k (part_from file k 0 ws)).answer ≡ Ok (step_in show scene_step (packet file 0) []).told.graph.answer
    shown_scene z = ap (λ (l : Listed). l.answer) listed_off ∙ scene_off file k met z

    pub shown_update : is_accepted (step_in show scene_step (packet file 0) []).told ≡ true →
        1 ≤ k → k < part_count file → (d : Given) →
        (part_listed file k (part_from file k 0 ws)).answer
        ≡ Ok (get_or (book_answers show (packets file (part_count file - 1) 1) (book_first show (packet file 0))) (k - 1) d).graph.answer
    unfolding shapes_before
    shown_update read some h d =
        let e : 1 + (k - 1) ≡ k = omega arith in
        let printed = rw e at (answer_at file (part_count file - 1) 1 (k - 1) (book_first show (packet file 0)) d (omega arith)) in
        ap (λ (l : Listed). l.answer) listed_off ∙ update_off file k met read some h ∙ ap (λ (g : Given). Ok g.graph.answer) (sym printed)
