-- Demand 1, from what the functions promise.
use Prim.Native.Nat.{ℕ, ◌*◌, ◌≤◌}
use mathlib.Core.Path.{◌≡◌, refl, sym, ap, ◌∙◌}
use mathlib.Core.List.{List, [], ◌++◌}
use mathlib.Core.Bool.{Bool, true, false}
use mathlib.Core.Logic.{◌⊎◌, inl, inr, ⊎_elim}
use native.Mathlib.Omega.{arith}
use borrow.Author.Tests.{leb-true, leb-false}
use lib.Dec.{leb, ltb, eqb}
use lib.ListN.{length, take, drop, take-append-drop}
use Rattle.std.specs.Prelude.{Result, Ok}
use Rattle.rules.specs.declared.Answer.{Answer}
use Rattle.rules.specs.declared.Outcome.{Outcome}
use Rattle.rules.specs.Rule.{done, refused, ◌>>=◌}
use Rattle.rules.specs.Reading.{Reading, reading, ended_at, is_read}
use Rattle.rules.specs.Derived.{demand}
use Rattle.rules.specs.Words.{recorded}
use Rattle.rules.specs.Answer.{answer_of, value_or, input_of, Answered}
use Rattle.rules.proofs.Pick.{by_pick}
use Rattle.rules.proofs.Words.{recorded_none}
use Rattle.rules.proofs.Answers.{value_unread}
use Rattle.rules.proofs.Laws.{never}
use Rattle.position.specs.declared.PositionSyntax.{PositionSyntax}
use Rattle.ranks.specs.Rank.{HaveRanks, verdict, ForParents}
use Rattle.ranks.proofs.Ranks.{accepts, number_cases}
use Rattle.ranks.proofs.Largest.{have_largest}
use Rattle.validation.specs.declared.GraphAnswer.{GraphAnswer}
use Rattle.validation.specs.Validation.{parents, validate_graph, no_input, validation_reading, graph_answer, GraphAnswered, LargestTold}
use Rattle.validation.proofs.Answers.{answer_tells}
use Rattle.scene.specs.declared.SceneAnswer.{SceneAnswer}
use Rattle.scene.specs.Scene.{defaults, scene_reading, SceneAnswered}
use Rattle.scene.proofs.Scenes.{defaults_rest}
use Rattle.update.specs.declared.UpdateAnswer.{UpdateAnswer}
use Rattle.update.specs.Update.{update_reading, UpdateAnswered}
use Rattle.names.specs.NameAnswer.{name_question}
use Rattle.exported.specs.declared.GatewayAnswer.{GatewayAnswer}
use Rattle.exported.specs.declared.GatewayGraphAnswer.{GatewayGraphAnswer}
use Rattle.gateway.specs.declared.GatewayScene.{GatewayScene}
use Rattle.exported.specs.Exported.{gateway_answer, exported_graph, Exported}
use Rattle.gateway.specs.Exported.{SceneExported, NameExported, ParentsExported}
use Rattle.laws.proofs.Stays.{entry_place}
use Rattle.known_names.specs.Known.{Explained}
use Rattle.known_names.proofs.Update.{update_known}
use Rattle.known_names.proofs.Explained.{explained, scene_explained, update_explained, position_explained, metadata_explained}
use Rattle.book.specs.Spare.{too_much_follows, part_reading}
use Rattle.book.specs.Book.{packet_of, is_accepted, book_scene, book_reading, scene_step, library, show, settled, step_in}
use Rattle.book.proofs.Book.{first_many, scene_place, update_place}
use Rattle.book.proofs.Shapes.{scene_ranked, update_ranked}
use Rattle.show_header.specs.Header.{part_count, part_of, file_question}
use Rattle.show_parts.specs.Parts.{packet}
use Rattle.part_fields.specs.declared.NotRead.{NotRead}
use Rattle.part_fields.specs.Part.{Listed, listed, shapes_before, part_from, update_listed, sound_listed, part_listed, PartAnswered}
use Rattle.listing_claims.proofs.Printed.{part_explained}
use Rattle.demand_1.specs.Demand.{KeptFrom, Kept, SceneKept, UpdateKept, Validated, NameKept, PacketKept, LentKept, Said, SaidOfGraph, AnswerCrossed, GraphCrossed, PartKept, Demand1}
use Rattle.demand_1.proofs.Kept.{reading_kept, call_kept}
use Rattle.demand_1.proofs.Texts.{name_kept, show_kept}
use Rattle.demand_1.proofs.Packets.{parents_kept}

module _ (bs : List ℕ) (offset : ℕ) (rec : Bool) (ws : List ℕ) {vs : List ℕ} where
  module _ {r : SceneAnswer} (m : SceneAnswered (scene_reading (input_of bs rec ws) offset) rec ws r vs) where
    few : r.count ≤ 63
    unfolding settled scene_step book_scene
    few = rw m.count (first_many library (packet_of bs offset rec ws))

    scene_beyond : KeptFrom r.count defaults r.shapes
    scene_beyond = m.others ∙ sym (defaults_rest r.count few)

    -- nothing was read, so nothing is counted, and all are beyond it
    none : is_read (answer_of (scene_reading (input_of bs rec ws) offset)).outcome ≡ false → ◌≡◌ {A = ℕ × List PositionSyntax} (r.count, r.shapes) (0, defaults)
    none h =
        let zero : r.count ≡ 0 = m.count ∙ ap (λ (l : List PositionSyntax). length l) (value_unread [] (scene_reading (input_of bs rec ws) offset).result h) in
        let all : r.shapes ≡ defaults = rw zero at scene_beyond in
        rw (zero, all)

    scene_kept : SaidOfGraph (SceneKept bs rec ws r.count r.shapes vs) r.graph
    scene_kept = record {
      kept = reading_kept _ _ (entry_place (input_of bs rec ws) _ offset _) (scene_explained _ offset) m.answered.answered (λ h _. none h);
      beyond = scene_beyond;
      largest = answer_tells m.answered (scene_ranked (input_of bs rec ws) offset);
    }

  module _ (count : ℕ) (shapes : List PositionSyntax) {r : UpdateAnswer}
      (m : UpdateAnswered (update_reading (input_of bs rec ws) offset count (take count shapes)) count shapes rec ws r vs) where
    -- the first shapes and the others
    all_came : take count r.shapes ≡ take count shapes → r.shapes ≡ shapes
    all_came e =
        sym (take-append-drop count r.shapes)
        ∙ ap (λ (l : List PositionSyntax). l ++ drop count r.shapes) e
        ∙ ap (λ (l : List PositionSyntax). take count shapes ++ l) m.others
        ∙ take-append-drop count shapes

    update_kept : SaidOfGraph (UpdateKept bs rec ws count shapes r.shapes vs) r.graph
    update_kept = record {
      kept = reading_kept shapes r.shapes (entry_place (input_of bs rec ws) _ offset _) (update_explained _ offset count shapes) m.answered.answered (λ _ e. all_came e);
      beyond = m.others;
      largest = answer_tells m.answered (update_ranked (input_of bs rec ws) offset count (take count shapes));
    }

  lent_kept : (shapes next : List PositionSyntax) {r : GraphAnswer} →
      GraphAnswered (update_reading (input_of bs rec ws) offset (length shapes) shapes) shapes rec ws r next vs → SaidOfGraph (LentKept bs rec ws shapes next vs) r
  lent_kept shapes next m = record {
    kept = call_kept bs rec ws _ offset _ (explained _ (update_known _ offset (length shapes) shapes (omega arith)).outcome) m.answered;
    largest = answer_tells m (update_ranked (input_of bs rec ws) offset (length shapes) shapes);
  }

-- Validation, by its number
module _ (count : ℕ) (shapes : List PositionSyntax) (at : ℕ) where
  abbrev Alone : Reading (List PositionSyntax) → Type 0
  Alone x = SaidOfGraph (Validated count shapes at) (graph_answer x)

  none_told : (o : Outcome) → is_read o ≡ false → LargestTold o 0 shapes
  none_told o h = record { of_read = λ r. never r h; of_unread = λ _. refl }

  alone : (n : ℕ) → (n ≡ 0) ⊎ ForParents n → (n ≡ 0 → HaveRanks (parents shapes)) → count ≤ 63 →
      Alone (reading no_input (demand (eqb n 0) (refused n) >>= (λ _. done shapes)) at at 0)
  unfolding reading demand ◌>>=◌
  alone n c ranks h =
      let told = have_largest (parents shapes) in
      ⊎_elim
      (λ e. rw e (record {
        largest = record { of_read = λ _. told (ranks e); of_unread = λ u. never refl u };
        none = refl;
        back = λ _. (refl, inl refl);
        too_many = λ l. absurd (omega arith);
      }))
      (⊎_elim
      (λ e. rw e (record { largest = none_told _ refl; none = refl; back = λ _. (refl, inr (inl refl)); too_many = λ l. absurd (omega arith) }))
      (λ e. rw e (record { largest = none_told _ refl; none = refl; back = λ _. (refl, inr (inr refl)); too_many = λ l. absurd (omega arith) })))
      c

  validation_kept : Alone (validation_reading count shapes at)
  unfolding validation_reading validate_graph
  validation_kept =
      by_pick Alone (leb count 63) _ _
      (λ e. alone (verdict (parents shapes)) (number_cases (parents shapes)) (accepts (parents shapes)) (leb-true count 63 e))
      (λ e. record {
        largest = none_told _ refl;
        none = refl;
        back = λ h. absurd (omega (arith, leb-false count 63 e));
        too_many = λ _. (refl, refl);
      })

-- what is said of an answer crosses with it
crosses : (P : Outcome → ℕ → ℕ → Type 0) {r : GatewayAnswer} {o : Outcome} {position counted : ℕ} → r ≡ gateway_answer o position counted → P o position counted → AnswerCrossed P r
crosses P {o = o} e p = rw e (record { outcome = o; code_is = refl; number_is = refl; said = p })

exported_kept : {A : Type 0} {x : Reading A} {a v : A} {rec : Bool} {ws vs : List ℕ} {r : GatewayAnswer} (P : Outcome → ℕ → ℕ → Type 0) →
    Exported x a rec ws r v vs → ((b : Answer) → Answered x a rec ws b v vs → Said P b) → AnswerCrossed P r
exported_kept P m p = crosses P m.same (p m.answer m.answered)

graph_crosses : (P : Outcome → ℕ → ℕ → ℕ → Type 0) {r : GatewayGraphAnswer} {g : GraphAnswer} → r ≡ exported_graph g → SaidOfGraph P g → GraphCrossed P r
graph_crosses P e p = rw e (record { outcome = _; code_is = refl; number_is = refl; said = p })

scene_exported : (bs : List ℕ) (offset : ℕ) (rec : Bool) (ws : List ℕ) {r : GatewayScene} {vs : List ℕ} →
    SceneExported (scene_reading (input_of bs rec ws) offset) rec ws r vs → GraphCrossed (SceneKept bs rec ws r.count r.shapes vs) r.answer
scene_exported bs offset rec ws {vs = vs} m = rw m.same (graph_crosses (SceneKept bs rec ws _ _ vs) refl (scene_kept bs offset rec ws m.answered))

name_exported : {word : ℕ} {bytes : List ℕ} {r : GatewayAnswer} {after : List ℕ} →
    NameExported word (name_question word (length bytes)) bytes r after → AnswerCrossed (NameKept bytes after) r
name_exported {bytes = bytes} {after = after} m = crosses (NameKept bytes after) m.same (name_kept m.named)

parents_exported : {shapes : List PositionSyntax} {parents bytes : List ℕ} {r : GatewayAnswer} {after : List ℕ} →
    ParentsExported shapes parents bytes r after → AnswerCrossed (PacketKept bytes after) r
parents_exported {bytes = bytes} {after = after} m = crosses (PacketKept bytes after) m.same (parents_kept m.written)

-- A part, whose number has a meaning, if it was read
module _ (file : List ℕ) (k offset : ℕ) (ws : List ℕ) where
  abbrev PartSaid : Listed → Type 0
  PartSaid x = ((a : Answer) → ◌≡◌ {A = Result Answer NotRead} (Ok a) x.answer → Explained a.outcome) → PartKept (part_of file k) ws x.answer (recorded true ws 0 x.fields)

  listed_kept : (x : Reading (List PositionSyntax)) → x.position ≤ 8 * length (part_of file k) → PartSaid (listed x)
  listed_kept x place number =
      let m : Answered x [] true ws (answer_of x) (value_or [] x.result) (recorded true ws 0 x.fields) = record { answer = refl; value = refl; words = refl } in
      reading_kept tt tt place (number (answer_of x) refl) m (λ _ _. refl)

  -- what a reading of the part comes to ends where the reading did
  part_listed_kept : (x : Reading (List PositionSyntax)) → x.position ≤ 8 * length (part_of file k) →
      PartSaid (listed (part_reading (part_of file k) x))
  unfolding part_reading
  part_listed_kept x place =
      let bs = part_of file k in
      listed_kept (part_reading bs x)
      (by_pick (λ y. y.position ≤ 8 * length bs) (too_much_follows bs (answer_of x)) _ x (λ _. place) (λ _. place))

  update_said : PartSaid (update_listed file k (part_from file k offset ws))
  unfolding update_listed
  update_said =
      let p = part_from file k offset ws in
      let s = shapes_before file k in
      by_pick PartSaid (is_accepted (step_in show scene_step (packet file 0) []).told) _ _
      (λ _. part_listed_kept (book_reading p s) (update_place p s))
      (λ _ _. recorded_none true ws 0)

  part_said : PartSaid (part_listed file k (part_from file k offset ws))
  unfolding part_listed sound_listed
  part_said =
      let p = part_from file k offset ws in
      by_pick PartSaid (eqb (file_question file) 0) _ _
      (λ _.
      by_pick PartSaid (ltb k (part_count file)) _ _
      (λ _. by_pick PartSaid (eqb k 0) _ _ (λ _. part_listed_kept (book_scene p) (scene_place p)) (λ _. update_said))
      (λ _ _. recorded_none true ws 0))
      (λ _. listed_kept (ended_at (refused (file_question file)) 0 0) (omega arith))

  part_kept : {r : Result Answer NotRead} {vs : List ℕ} → PartAnswered (part_listed file k (part_from file k offset ws)) ws r vs → PartKept (part_of file k) ws r vs
  part_kept m = rw (m.answer, m.words) (part_said (λ a e. part_explained file k offset ws (record { answer = e; words = refl })))

pub demand_1 : Demand1
demand_1 = record {
  scene = λ bs offset rec ws r vs m. scene_kept bs offset rec ws m;
  update = λ bs offset rec ws count shapes r vs m. update_kept bs offset rec ws count shapes m;
  lent_update = λ bs offset rec ws shapes next r vs m. lent_kept bs offset rec ws shapes next m;
  position = λ bs offset rec ws shape next full r vs m. call_kept bs rec ws _ offset _ (position_explained _ offset shape full) m;
  metadata = λ bs offset rec ws r vs m. call_kept bs rec ws _ offset _ (metadata_explained _ offset) m;
  validation = λ count shapes at r e. rw e (validation_kept count shapes at);
  name = λ word bytes r after m. name_kept m;
  parents = λ shapes parents bytes r after m. parents_kept m;
  exported_scene = λ bs offset rec ws r vs m. scene_exported bs offset rec ws m;
  exported_update = λ bs offset rec ws shapes next r vs m. graph_crosses (LentKept bs rec ws shapes next vs) m.same (lent_kept bs offset rec ws shapes next m.answered);
  exported_position =
      λ bs offset rec ws shape next full r vs m. exported_kept (Kept bs rec ws shape next vs) m (λ b a. call_kept bs rec ws _ offset _ (position_explained _ offset shape full) a);
  exported_metadata =
      λ bs offset rec ws r vs m. exported_kept (Kept bs rec ws tt tt vs) m (λ b a. call_kept bs rec ws _ offset _ (metadata_explained _ offset) a);
  exported_validation = λ shapes at r e. graph_crosses (Validated (length shapes) shapes at) e (validation_kept (length shapes) shapes at);
  exported_name = λ word bytes r after m. name_exported m;
  exported_parents = λ shapes parents bytes r after m. parents_exported m;
  part = λ file k offset ws r vs m. part_kept file k offset ws m;
  show = λ file before r after m. show_kept m;
}
