-- The show's claim is met.
use Prim.Native.Nat.{ℕ, ◌-◌}
use mathlib.Core.Path.{◌≡◌, sym, ◌∙◌, ap, ap₂}
use mathlib.Core.List.{List, [], ◌∷◌, ◌++◌, append-nil}
use mathlib.Core.Bool.{true, false}
use native.Mathlib.Omega.{arith}
use base.Logic.{SProp}
use prog.Memory.{Memory}
use prog.Routine.{Env}
use prog.Wired.{Wired}
use borrow.Fn.World.{World}
use Rattle.rules.specs.declared.Answer.{Answer}
use Rattle.rules.specs.Reading.{is_read}
use Rattle.position.specs.declared.PositionSyntax.{PositionSyntax}
use Rattle.validation.specs.Validation.{parents}
use Rattle.ranks.proofs.Ranks.{chain_ranks}
use Rattle.ranks.proofs.Largest.{deepest_is}
use Rattle.text.proofs.TextAnswer.TheLaws as text-answer
use Rattle.text.proofs.Puts.{put_front, put_long}
use Rattle.book.specs.Book.{Packet, Given, is_accepted, scene_step, show, settled, step_in, book_first, book_answers, book_shapes}
use Rattle.book.proofs.Calls.{scene_by_step}
use Rattle.show_header.specs.Header.{part_count, file_question}
use Rattle.show_parts.specs.Parts.{packet, packets}
use Rattle.show_lines.specs.Lines.{part_line, shapes_text}
use Rattle.show.specs.Show.{part_lines, updates_text, rest_text, parts_text, show_text}
use Rattle.show.proofs.show.Symbol.{name as show_name, code as show_code}
use Rattle.show.proofs.Room.{show_enough}
use Rattle.owner.specs.Cells.{slice, pointer}
use Rattle.owner.proofs.Cells.{one_end}
use Rattle.printed_runs.specs.Show.{Showing, Shown}
use Rattle.printed_runs.proofs.Show.{shows}
use Rattle.claims.specs.Calls.{Call, packet_sent}
use Rattle.printed_claims.specs.Show.{text_of, ShowClaim}
use Rattle.claims.proofs.Calls.{through_ran, list_claim}

-- the text of a file that is not refused, by the scene's answer, the answers after it and the shapes at the end
module _ (file : List ℕ) (met : file_question file ≡ 0) {a : Answer} (e : a ≡ (step_in show scene_step (packet file 0) []).told.graph.answer) where
  text_is : show_text file ≡ part_line 0 a ++ rest_text file a (book_first show (packet file 0))
  unfolding show_text parts_text
  text_is = rw met (ap (λ (b : Answer). part_line 0 b ++ rest_text file b (book_first show (packet file 0))) (sym e))

  text_refused : is_read a.outcome ≡ false → show_text file ≡ part_line 0 a
  unfolding rest_text
  text_refused h = text_is ∙ rw h (append-nil (part_line 0 a))

  text_read : is_read a.outcome ≡ true → {gs : List Given} {t : List PositionSyntax} →
      gs ≡ book_answers show (packets file (part_count file - 1) 1) (book_first show (packet file 0)) →
      t ≡ book_shapes show (packets file (part_count file - 1) 1) (book_first show (packet file 0)) →
      show_text file ≡ part_line 0 a ++ (part_lines 1 gs ++ shapes_text t)
  unfolding rest_text updates_text
  text_read h p q = text_is ∙ rw (h, p, q)

-- the answer of a scene that was fed part 0
module _ (file : List ℕ) where
  answer_is : {scene : Call} → scene.told ≡ (step_in show scene_step scene.fed []).told → scene.fed ≡ packet file 0 →
      scene.told.graph.answer ≡ (step_in show scene_step (packet file 0) []).told.graph.answer
  answer_is told fed = ap (λ (g : Given). g.graph.answer) told ∙ ap (λ (p : Packet). (step_in show scene_step p []).told.graph.answer) fed

text_of_lem : (w : World) (γ : Env) (p : Showing) (σ : Memory) (F : SProp w.𝓤) (run : Shown w γ p σ F) → text_of w γ run ≡ show_text p.file.held
text_of_lem w γ p σ F run =
    let enough = show_enough p.file.held in
    put_front run.answered.text (omega (arith, run.text_many, put_long run.answered.text))

pub show_claim : (w : World) (γ : Env) → Wired γ show_code → ShowClaim w γ
show_claim w γ has = record {
  every_show = shows w γ has;
  one_show = λ p σ F run v ρ ends.
      one_end (γ show_name) (slice p.file ∷ pointer p.text ∷ []) σ v (text-answer.lowered run.answer) ρ run.memory ends run.ran;
  defined = text_of_lem w γ;
  refused = λ p σ F run met f q π G scene fed told e unread.
      let is = (scene_by_step show q.bytes.held q.offset q.recording q.words.held scene.answered).tells in
      text_of_lem w γ p σ F run ∙ text_refused p.file.held met (answer_is p.file.held {scene = record { fed = packet_sent q; told = told }} (e ∙ is) fed) unread;
  told = λ p σ F run met scene s t π ρ cs a r fed others.
      let claim = list_claim w γ show scene s t π cs a (through_ran w γ show r) in
      let first = claim.first_are ∙ ap (book_first show) fed in
      text_of_lem w γ p σ F run
      ∙ text_read p.file.held met (answer_is p.file.held claim.scene_is fed) a.read
      (claim.booked.told_are ∙ ap₂ (book_answers show) others first)
      (claim.booked.state_is ∙ ap₂ (book_shapes show) others first);
  ranks = λ scene s t π ρ cs a r. (chain_ranks (parents t) (list_claim w γ show scene s t π cs a (through_ran w γ show r)).ranked, deepest_is (parents t));
}
