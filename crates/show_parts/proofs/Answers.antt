-- What is answered of a part: its reading, and then question 39.
use Prim.Native.Nat.{ℕ, ◌-◌, ◌*◌, ◌<◌, ◌≤◌}
use mathlib.Core.Path.{◌≡◌, refl, sym, ◌∙◌, ap}
use mathlib.Core.List.{List, []}
use mathlib.Core.Bool.{Bool, true, false}
use borrow.Author.Tests.{lt-ltb, le-ltb}
use lib.Dec.{eqb, ltb}
use lib.ListN.{length, take, replicate}
use lib.Seq.{length-take-le}
use Rattle.bits.specs.Bits.{bits_at}
use Rattle.rules.specs.declared.Answer.{Answer}
use Rattle.rules.specs.declared.Outcome.TheVariants.{Refused}
use Rattle.rules.specs.Reading.{Reading, is_read}
use Rattle.rules.specs.Words.{recorded}
use Rattle.rules.specs.Answer.{answer_of, input_of}
use Rattle.rules.proofs.Pick.{by_pick}
use Rattle.rules.proofs.Laws.{never, both}
use Rattle.position.specs.declared.PositionSyntax.{PositionSyntax}
use Rattle.position.specs.Shape.{default}
use Rattle.validation.specs.declared.GraphAnswer.{GraphAnswer}
use Rattle.validation.specs.Validation.{GraphAnswered}
use Rattle.validation.proofs.Answers.{read_over, unread_over}
use Rattle.scene.specs.declared.SceneAnswer.{SceneAnswer}
use Rattle.scene.specs.Scene.{scene_reading, SceneAnswered}
use Rattle.update.specs.Update.{update_reading, UpdateGiven}
use Rattle.book.specs.Spare.{spare, too_much_follows, part_reading, refused_at_end, part_graph}
use Rattle.book.specs.Book.{packet_of, book_scene, book_reading, show, scene_part, update_part}
use Rattle.book.proofs.Book.{first_many, scene_counts, scene_place, update_place, update_is}
use Rattle.show_parts.specs.Parts.{packet}

-- the question by the code's two tests: so many bits follow, with this value
module _ (bs : List ℕ) (end : ℕ) where
  abbrev left : ℕ
  left = 8 * length bs - end

  pub few_left : left < 8 → {v : ℕ} → v ≡ bits_at bs end left → eqb v 0 ≡ spare bs end
  unfolding spare
  few_left h e = rw (e, lt-ltb left 8 h)

  pub many_left : 8 ≤ left → ltb left 8 ≡ spare bs end
  unfolding spare
  many_left h = rw (le-ltb left 8 h)

-- What is told of an answer: nothing else, if it is not read or the question is met.
module _ (bs : List ℕ) (g : GraphAnswer) where
  pub unread : is_read g.answer.outcome ≡ false → g ≡ part_graph bs g
  unfolding part_graph
  unread h = rw h

  pub met : spare bs g.answer.position ≡ true → g ≡ part_graph bs g
  unfolding part_graph
  met h =
      by_pick (λ r. g ≡ r) (too_much_follows bs g.answer) _ g
      (λ e. let more = (both (is_read g.answer.outcome) e).1 in never (rw h at more) refl)
      (λ _. refl)

  pub unmet : is_read g.answer.outcome ≡ true → spare bs g.answer.position ≡ false → refused_at_end g ≡ part_graph bs g
  unfolding part_graph
  unmet h e = rw (h, e)

-- So it is what is promised of a part's reading, whatever shapes stand where nothing was read: with the shapes that were read, if what
-- is told is read, and otherwise with those.
module _ (bs : List ℕ) {x : Reading (List PositionSyntax)} {a after : List PositionSyntax} {rec : Bool} {ws vs : List ℕ} {r : GraphAnswer}
    (y : GraphAnswered x a rec ws r after vs) (before : List PositionSyntax) where
  abbrev Answers : GraphAnswer → List PositionSyntax → Type 0
  Answers g t = GraphAnswered (part_reading bs x) before rec ws g t vs

  follow : {b : Bool} → too_much_follows bs r.answer ≡ b → too_much_follows bs (answer_of x) ≡ b
  follow e = ap (too_much_follows bs) (sym y.answered.answer) ∙ e

  as_read : {t : List PositionSyntax} → too_much_follows bs r.answer ≡ false → GraphAnswered x before rec ws r t vs → Answers r t
  unfolding part_reading
  as_read e z = rw (follow e) z

  refused : too_much_follows bs r.answer ≡ true → Answers (refused_at_end r) before
  unfolding part_reading
  refused e = rw (follow e) (record {
    answered = record {
      answer = ap (λ (b : Answer). record { outcome = Refused 39; position = b.position; fields = b.fields }) y.answered.answer;
      value = refl;
      words = y.answered.words;
    };
    deepest = refl;
  })

  record Told (g : GraphAnswer) : Type 0 where
    if_read : is_read g.answer.outcome ≡ true → (r ≡ g) × Answers r after
    if_not : is_read g.answer.outcome ≡ false → Answers g before

  told : Told (part_graph bs r)
  unfolding part_graph
  told =
      by_pick Told (too_much_follows bs r.answer) (refused_at_end r) r
      (λ e. record { if_read = λ h. never h refl; if_not = λ _. refused e })
      (λ e. record { if_read = λ h. (refl, as_read e (read_over y before h)); if_not = λ h. as_read e (unread_over y before h) })

  module _ {g : GraphAnswer} (e : g ≡ part_graph bs r) where
    pub part_same : is_read g.answer.outcome ≡ true → r ≡ g
    part_same h = (told.if_read (rw e at h)).0 ∙ sym e

    pub part_of_read : is_read g.answer.outcome ≡ true → Answers r after
    part_of_read h = (told.if_read (rw e at h)).1

    pub part_read : is_read g.answer.outcome ≡ true → Answers g after
    part_read h = rw (← part_same h) (part_of_read h)

    pub part_unread : is_read g.answer.outcome ≡ false → Answers g before
    part_unread h = rw e (told.if_not (rw e at h))

-- A scene: where it ended is a bit of the part; and what is promised of it.
module _ (bs : List ℕ) (offset : ℕ) (rec : Bool) (ws : List ℕ) {r : SceneAnswer} {vs : List ℕ}
    (y : SceneAnswered (scene_reading (input_of bs rec ws) offset) rec ws r vs) where
  pub scene_inside : r.graph.answer.position ≤ 8 * length bs
  unfolding book_scene
  scene_inside = rw y.answered.answered.answer (scene_place (packet_of bs offset rec ws))

  module _ {g : GraphAnswer} (e : g ≡ part_graph bs r.graph) where
    pub scene_is_read : is_read g.answer.outcome ≡ true → SceneAnswered (scene_part (packet_of bs offset rec ws)) rec ws r vs
    unfolding book_scene
    scene_is_read h =
        let z = part_of_read bs y.answered [] e h in
        let same = sym y.answered.answered.value ∙ z.answered.value in
        record { answered = z; count = y.count ∙ ap (λ (l : List PositionSyntax). length l) same; others = y.others }

    pub scene_is_not : is_read g.answer.outcome ≡ false → {ss : List PositionSyntax} → ss ≡ replicate 63 default →
        SceneAnswered (scene_part (packet_of bs offset rec ws)) rec ws (record { graph = g; count = 0; shapes = ss }) vs
    unfolding book_scene
    scene_is_not h d =
        let z = part_unread bs y.answered [] e h in
        record { answered = z; count = ap (λ (l : List PositionSyntax). length l) z.answered.value; others = d }

-- an update of the first `count` of 63 shapes
module _ (bs : List ℕ) (offset : ℕ) (rec : Bool) (ws : List ℕ) (count : ℕ) (shapes : List PositionSyntax) (few : count ≤ length shapes)
    {r : GraphAnswer} {after : List PositionSyntax} {vs : List ℕ}
    (y : UpdateGiven (update_reading (input_of bs rec ws) offset count (take count shapes)) count shapes rec ws r after vs) where
  update_answered : GraphAnswered (book_reading (packet_of bs offset rec ws) (take count shapes)) (take count after) rec ws r (take count after) vs
  update_answered = rw (← update_is bs offset rec ws count (take count shapes) (sym (length-take-le count shapes few))) y.answered

  pub update_inside : r.answer.position ≤ 8 * length bs
  update_inside = rw update_answered.answered.answer (update_place (packet_of bs offset rec ws) (take count shapes))

  module _ {g : GraphAnswer} (e : g ≡ part_graph bs r) where
    pub update_is_read : is_read g.answer.outcome ≡ true →
        GraphAnswered (update_part (packet_of bs offset rec ws) (take count shapes)) (take count shapes) rec ws g (take count after) vs
    update_is_read = part_read bs update_answered (take count shapes) e

    pub update_is_not : is_read g.answer.outcome ≡ false →
        GraphAnswered (update_part (packet_of bs offset rec ws) (take count shapes)) (take count shapes) rec ws g (take count shapes) vs
    update_is_not = part_unread bs update_answered (take count shapes) e

-- a scene that the show has read has at most 63 positions
pub scene_fits : (file : List ℕ) {r : SceneAnswer} {vs : List ℕ} → SceneAnswered (scene_part (packet file 0)) false [] r vs → r.count ≤ 63
scene_fits file y = rw (scene_counts (packet file 0) y) (first_many show (packet file 0))

-- with recording off the words are left alone
pub words_off : {x : Reading (List PositionSyntax)} {a t : List PositionSyntax} {ws vs : List ℕ} {r : GraphAnswer} → GraphAnswered x a false ws r t vs → vs ≡ ws
unfolding recorded
words_off y = y.answered.words
