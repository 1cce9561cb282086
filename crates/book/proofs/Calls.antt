-- A call of which the promise of `read_scene` or of an update holds is by the step, in the library and in the show, and is refused for
-- its parents as demand 3's last sentence says.
use Prim.Native.Nat.{ℕ, ◌*◌}
use mathlib.Core.Path.{◌≡◌, ◌∙◌, ap, ap₂}
use mathlib.Core.List.{List, [], ◌++◌}
use mathlib.Core.Bool.{Bool, true, false}
use mathlib.Core.Logic.{◌↔◌}
use lib.ListN.{length, take, drop}
use lib.Seq.{take_at}
use Rattle.rules.specs.Rule.{Rule}
use Rattle.rules.specs.Reading.{Reading, reading}
use Rattle.rules.specs.Words.{encoded}
use Rattle.rules.specs.Answer.{value_or, input_of}
use Rattle.rules.proofs.Words.{encoded_length}
use Rattle.position.specs.declared.PositionSyntax.{PositionSyntax}
use Rattle.validation.specs.declared.GraphAnswer.{GraphAnswer}
use Rattle.validation.specs.Validation.{RefusedForParents, graph_answer, GraphAnswered}
use Rattle.validation.proofs.Answers.{graph_is}
use Rattle.scene.specs.declared.SceneAnswer.{SceneAnswer}
use Rattle.scene.specs.Scene.{scene_reading, SceneAnswered}
use Rattle.update.specs.Update.{update_reading}
use Rattle.laws.proofs.Front.{words_front}
use Rattle.book.specs.Step.{After, Step, ByStep}
use Rattle.book.specs.Book.{Packet, packet_of, input, Given, given, given_by, book_scene, scene_step, update_step, Setting, settled, step_in, Ranked, SceneWouldGive, PacketWouldGive}
use Rattle.book.proofs.Shapes.{scene_refused, update_refused}
use Rattle.book.proofs.Settled.{parents_in}
use Rattle.book.proofs.Book.{update_is}

-- the answer of a call is the reading's, with the words of its counted fields
answer_given : (bs : List ℕ) (rec : Bool) (ws : List ℕ) (q : Rule (List PositionSyntax)) {a v : List PositionSyntax} {r : GraphAnswer} {vs : List ℕ} →
    GraphAnswered (reading (input_of bs rec ws) q 0 0 0) a rec ws r v vs → given_by rec r vs ≡ given rec (reading (input_of bs rec ws) q 0 0 0)
answer_given bs true ws q {vs = vs} m =
    let x = reading (input_of bs true ws) q 0 0 0 in
    let front : vs ≡ encoded x.fields ++ drop (5 * length x.fields) ws = m.answered.words ∙ words_front bs ws q 0 0 in
    let counted : take (5 * length x.fields) vs ≡ encoded x.fields = rw front (take_at (encoded x.fields) _ _ (encoded_length x.fields)) in
    rw (graph_is m) (ap (λ (l : List ℕ). record { graph = graph_answer x; words = l }) counted)
answer_given bs false ws q m = ap (λ (r : GraphAnswer). record { graph = r; words = [] }) (graph_is m)

both_ways : {A B C : Type 0} → A ↔ B → B ↔ C → A ↔ C
both_ways p q = (λ a. q.0 (p.0 a), λ c. p.1 (q.1 c))

-- what a call comes to that is by the step is by the step in that setting
by_step_in : (x : Setting) {step : Step Packet (List PositionSyntax) Given} {p : Packet} {s t : List PositionSyntax} {g : Given} →
    ByStep step s (record { fed = p; told = g }) t →
    ByStep (step_in x step) s (record { fed = p; told = (settled x p s (record { told = g; left = t })).told }) (settled x p s (record { told = g; left = t })).left
by_step_in x {p = p} {s = s} y =
    let same = ap₂ (λ (g : Given) (t : List PositionSyntax). record { told = g; left = t }) y.tells y.leaves in
    record {
      tells = ap (λ (a : After (List PositionSyntax) Given). (settled x p s a).told) same;
      leaves = ap (λ (a : After (List PositionSyntax) Given). (settled x p s a).left) same;
    }

module _ (x : Setting) (bs : List ℕ) (offset : ℕ) (rec : Bool) (ws : List ℕ) where
  abbrev p : Packet
  p = packet_of bs offset rec ws

  module _ {r : SceneAnswer} {vs : List ℕ} (m : SceneAnswered (scene_reading (input_of bs rec ws) offset) rec ws r vs) where
    abbrev scene_gave : After (List PositionSyntax) Given
    scene_gave = record { told = given_by rec r.graph vs; left = take r.count r.shapes }

    in_library : ByStep scene_step [] (record { fed = p; told = given_by rec r.graph vs }) (take r.count r.shapes)
    unfolding scene_step book_scene
    in_library = record { tells = answer_given bs rec ws _ m.answered; leaves = m.answered.answered.value }

    pub scene_by_step : ByStep (step_in x scene_step) [] (record { fed = p; told = (settled x p [] scene_gave).told }) (settled x p [] scene_gave).left
    scene_by_step = by_step_in x in_library

    pub scene_for_parents : (next : List PositionSyntax) → SceneWouldGive p next →
        RefusedForParents (settled x p [] scene_gave).told.graph.answer.outcome ↔ (¬ Ranked next)
    scene_for_parents next h = both_ways (parents_in p [] scene_gave x) (rw m.answered.answered.answer (scene_refused (input p) offset next h))

  module _ (s : List PositionSyntax) (count : ℕ) {r : GraphAnswer} {t : List PositionSyntax} {vs : List ℕ}
      (m : GraphAnswered (update_reading (input_of bs rec ws) offset count s) s rec ws r t vs) where
    abbrev update_gave : After (List PositionSyntax) Given
    update_gave = record { told = given_by rec r vs; left = t }

    update_in_library : count ≡ length s → ByStep update_step s (record { fed = p; told = given_by rec r vs }) t
    unfolding update_step
    update_in_library e =
        let same = update_is bs offset rec ws count s e in
        record {
          tells = answer_given bs rec ws _ m ∙ ap (given rec) same;
          leaves = m.answered.value ∙ ap (λ (y : Reading (List PositionSyntax)). value_or s y.result) same;
        }

    pub update_by_step : count ≡ length s →
        ByStep (step_in x update_step) s (record { fed = p; told = (settled x p s update_gave).told }) (settled x p s update_gave).left
    update_by_step e = by_step_in x (update_in_library e)

    pub packet_for_parents : (next : List PositionSyntax) → PacketWouldGive p count s next →
        RefusedForParents (settled x p s update_gave).told.graph.answer.outcome ↔ (¬ Ranked next)
    packet_for_parents next h = both_ways (parents_in p s update_gave x) (rw m.answered.answer (update_refused (input p) offset count s next h))
