-- The text of a show, line by line, as the code puts it.
use Prim.Native.Nat.{ℕ, suc, ◌+◌, ◌-◌, ◌<◌, ◌≤◌}
use mathlib.Core.Path.{◌≡◌, sym, ◌∙◌, ap₂}
use mathlib.Core.List.{List, [], ◌∷◌, ◌++◌, append_assoc, append-nil}
use mathlib.Core.Bool.{true, false}
use native.Mathlib.Omega.{arith}
use lib.ListN.{take}
use Rattle.rules.specs.declared.reason.Reason.{Reason}
use Rattle.rules.specs.Reason.{number_of}
use Rattle.rules.specs.Reading.{is_read}
use Rattle.rules.proofs.Numbered.{numbered}
use Rattle.position.specs.declared.PositionSyntax.{PositionSyntax}
use Rattle.validation.specs.declared.GraphAnswer.{GraphAnswer}
use Rattle.validation.specs.Validation.{GraphAnswered}
use Rattle.scene.specs.declared.SceneAnswer.{SceneAnswer}
use Rattle.scene.specs.Scene.{SceneAnswered}
use Rattle.book.specs.Step.{book_told, book_state}
use Rattle.book.specs.Book.{update_step, show, step_in, scene_part, update_part}
use Rattle.book.proofs.Book.{scene_answer, scene_declares, update_answer, update_left}
use Rattle.text.specs.Text.{line}
use Rattle.show_header.specs.Header.{part_count, file_question}
use Rattle.show_parts.specs.Parts.{packet, packets}
use Rattle.show_lines.specs.Lines.{part_line, shapes_text}
use Rattle.show.specs.Show.{part_lines, updates_text, rest_text, parts_text, show_text}

module _ (file : List ℕ) (n k : ℕ) (s : List PositionSyntax) where
  -- one update, and what follows it
  pub update_more : k < n → {a : GraphAnswer} {t : List PositionSyntax} {vs : List ℕ} → GraphAnswered (update_part (packet file k) s) s false [] a t vs →
      updates_text k (packets file (n - k) k) s ≡ part_line k a.answer ++ updates_text (k + 1) (packets file (n - (k + 1)) (k + 1)) t
  unfolding updates_text packets part_lines book_told book_state
  update_more h y =
      let more : n - k ≡ suc (n - (k + 1)) = omega arith in
      let first = part_line k (step_in show update_step (packet file k) s).told.graph.answer in
      rw (more, update_answer (packet file k) y, update_left (packet file k) y) (append_assoc first _ _)

  pub update_end : n ≤ k → updates_text k (packets file (n - k) k) s ≡ shapes_text s
  unfolding updates_text packets part_lines book_told book_state
  update_end h = let none : n - k ≡ 0 = omega arith in rw none

-- What stands after the line of part 0, by what the scene answered.
module _ (file : List ℕ) {r : SceneAnswer} {vs : List ℕ} (y : SceneAnswered (scene_part (packet file 0)) false [] r vs) where
  pub parts_by_scene : parts_text file ≡ part_line 0 r.graph.answer ++ rest_text file r.graph.answer (take r.count r.shapes)
  unfolding parts_text
  parts_by_scene =
      sym (ap₂ (λ (g : GraphAnswer) (s : List PositionSyntax). part_line 0 g.answer ++ rest_text file g.answer s) (scene_answer (packet file 0) y) (scene_declares (packet file 0) y))

  pub parts_read : is_read r.graph.answer.outcome ≡ true →
      parts_text file ≡ part_line 0 r.graph.answer ++ updates_text 1 (packets file (part_count file - 1) 1) (take r.count r.shapes)
  unfolding rest_text
  parts_read h = rw h at parts_by_scene

  pub parts_unread : is_read r.graph.answer.outcome ≡ false → parts_text file ≡ part_line 0 r.graph.answer
  unfolding rest_text
  parts_unread h = rw h at parts_by_scene ∙ append-nil (part_line 0 r.graph.answer)

-- The text of a file that is a show, and of one that is not.
module _ (file : List ℕ) where
  pub show_read : 0 ≡ file_question file → show_text file ≡ parts_text file
  unfolding show_text
  show_read e = rw (← e)

  pub show_refused : (reason : Reason) → number_of reason ≡ file_question file → {n : ℕ} → n ≡ number_of reason →
      show_text file ≡ line (("file refused ", n) ∷ [])
  unfolding show_text
  show_refused reason e p = rw (← e, numbered reason, p)
