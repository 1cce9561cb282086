-- The steps of a scene and of an update by their laws, in the library and in the show: nobody above has to look into a reading to
-- speak of a list of packets.
use Prim.Native.Nat.{ℕ, ◌*◌, ◌≤◌}
use mathlib.Core.Path.{◌≡◌, refl, sym, ◌∙◌, ap}
use mathlib.Core.Bool.{Bool, true, false}
use mathlib.Core.List.{List, []}
use native.Mathlib.Omega.{arith}
use lib.ListN.{length, take}
use Rattle.rules.specs.Reading.{Result, read, ended}
use Rattle.rules.specs.Answer.{value_or, input_of}
use Rattle.rules.proofs.Answers.{value_unread}
use Rattle.position.specs.declared.PositionSyntax.{PositionSyntax}
use Rattle.validation.specs.declared.GraphAnswer.{GraphAnswer}
use Rattle.validation.specs.Validation.{GraphAnswered, TellsLargest}
use Rattle.validation.proofs.Answers.{graph_is, reading_tells}
use Rattle.scene.specs.declared.SceneAnswer.{SceneAnswer}
use Rattle.scene.specs.Scene.{scene_reading, SceneAnswered}
use Rattle.update.specs.Update.{update_reading}
use Rattle.laws.proofs.Stays.{entry_place}
use Rattle.laws.proofs.Free.{enough}
use Rattle.book.specs.Step.{After, Leaves, Keeps}
use Rattle.book.specs.Spare.{part_reading}
use Rattle.book.specs.Book.{Packet, packet_of, input, Given, given, is_accepted, step_of, book_scene, book_reading, scene_step, update_step, Setting, show, step_in, scene_part, update_part, book_first, book_shapes, Ranked}
use Rattle.book.proofs.Steps.{kept}
use Rattle.book.proofs.Settled.{settled_reads, tells_in, leaves_in, keeps_in}
use Rattle.book.proofs.Shapes as shapes

-- the shapes that a step leaves are those that were read, or else those from before
left_by : (P : List PositionSyntax → Type 0) (s : List PositionSyntax) (x : Result (List PositionSyntax)) → P s →
    ((l : List PositionSyntax) → x ≡ read l → P l) → P (value_or s x)
left_by P s (read l) h k = k l refl
left_by P s (ended z) h k = h

-- where there are no positions there is nothing to rank
none_ranked : Ranked []
none_ranked = (λ i. 0, λ i d. absurd (omega (arith, d.from, d.to)))

-- ---- a refused call leaves the shapes
library_scene_leaves : Leaves scene_step is_accepted
unfolding scene_step
library_scene_leaves p s h = value_unread s (book_scene p).result h

pub scene_leaves : (x : Setting) → Leaves (step_in x scene_step) is_accepted
scene_leaves x = leaves_in x scene_step library_scene_leaves

library_leaves : Leaves update_step is_accepted
unfolding update_step
library_leaves p s h = value_unread s (book_reading p s).result h

pub update_leaves : (x : Setting) → Leaves (step_in x update_step) is_accepted
update_leaves x = leaves_in x update_step library_leaves

-- ---- the shapes have ranks after an accepted call, and so after any
pub scene_ranked : Keeps scene_step Ranked
unfolding scene_step book_scene
scene_ranked p s h = left_by Ranked s (book_scene p).result h (shapes.scene_ranked (input p) p.offset)

pub update_ranked : Keeps update_step Ranked
unfolding update_step book_reading
update_ranked p s h = left_by Ranked s (book_reading p s).result h (shapes.update_ranked (input p) p.offset (length s) s)

pub first_ranked : (x : Setting) (p : Packet) → Ranked (book_first x p)
first_ranked x p = keeps_in x scene_step scene_ranked p [] none_ranked

-- ---- and the largest of them is told
pub scene_tells : (x : Setting) (p : Packet) → TellsLargest (step_in x scene_step p []).told.graph (book_first x p)
unfolding scene_step book_scene
scene_tells x p = tells_in p [] (scene_step p []) x (reading_tells [] (book_scene p).result (shapes.scene_ranked (input p) p.offset))

pub update_tells : (x : Setting) (p : Packet) (s : List PositionSyntax) →
    TellsLargest (step_in x update_step p s).told.graph (step_in x update_step p s).left
unfolding update_step book_reading
update_tells x p s = tells_in p s (update_step p s) x (reading_tells s (book_reading p s).result (shapes.update_ranked (input p) p.offset (length s) s))

-- so the shapes that an accepted update leaves have ranks, whatever it was handed
pub accepted_ranked : (x : Setting) (p : Packet) (s : List PositionSyntax) → is_accepted (step_in x update_step p s).told ≡ true →
    Ranked (step_in x update_step p s).left
accepted_ranked x p s h = let told = (update_tells x p s).of_read h in (told.0, told.1)

-- ---- a scene declares at most 63 positions, and there are as many shapes after any packets as before
scene_many : Keeps scene_step (λ l. length l ≤ 63)
unfolding scene_step book_scene
scene_many p s h = left_by (λ l. length l ≤ 63) s (book_scene p).result h (shapes.scene_many (input p) p.offset)

pub first_many : (x : Setting) (p : Packet) → length (book_first x p) ≤ 63
first_many x p = keeps_in x scene_step scene_many p [] (omega arith)

pub update_many : (n : ℕ) → Keeps update_step (λ l. length l ≡ n)
unfolding update_step book_reading
update_many n p s h =
    left_by (λ l. length l ≡ n) s (book_reading p s).result h (λ l e. shapes.update_many (input p) p.offset (length s) s l e ∙ h)

pub shapes_many : (x : Setting) (ps : List Packet) (s : List PositionSyntax) → length (book_shapes x ps s) ≡ length s
shapes_many x ps s = kept (step_in x update_step) (λ l. length l ≡ length s) (keeps_in x update_step (update_many (length s))) ps s refl

pub shapes_ranked : (x : Setting) (ps : List Packet) (s : List PositionSyntax) → Ranked s → Ranked (book_shapes x ps s)
shapes_ranked x = kept (step_in x update_step) Ranked (keeps_in x update_step update_ranked)

-- ---- what the functions read is what the book reads
module _ (bs : List ℕ) (offset : ℕ) (rec : Bool) (ws : List ℕ) where
  pub scene_is : scene_reading (input_of bs rec ws) offset ≡ book_scene (packet_of bs offset rec ws)
  unfolding book_scene
  scene_is = refl

  pub update_is : (count : ℕ) (s : List PositionSyntax) → count ≡ length s →
      update_reading (input_of bs rec ws) offset count s ≡ book_reading (packet_of bs offset rec ws) s
  unfolding book_reading
  update_is count s e = ap (λ (n : ℕ). update_reading (input_of bs rec ws) offset n s) e

-- ---- a reading ends at a bit of the bytes, and so does that of a part
pub scene_place : (p : Packet) → (book_scene p).position ≤ 8 * length p.bytes
unfolding book_scene
scene_place p = entry_place (input p) _ p.offset _

pub update_place : (p : Packet) (s : List PositionSyntax) → (book_reading p s).position ≤ 8 * length p.bytes
unfolding book_reading
update_place p s = entry_place (input p) _ p.offset _

-- ---- what the steps tell is what is told of their readings
pub scene_told : (p : Packet) (s : List PositionSyntax) → (scene_step p s).told ≡ given p.recording (book_scene p)
unfolding scene_step
scene_told p s = refl

pub update_told : (p : Packet) (s : List PositionSyntax) → (update_step p s).told ≡ given p.recording (book_reading p s)
unfolding update_step
update_told p s = refl

-- ---- what the show's steps give is what the readings of its parts give
pub scene_part_step : (p : Packet) (s : List PositionSyntax) → step_in show scene_step p s ≡ step_of p.recording (scene_part p) s
unfolding scene_step
scene_part_step p s = settled_reads p.bytes (book_scene p) p refl s

pub update_part_step : (p : Packet) (s : List PositionSyntax) → step_in show update_step p s ≡ step_of p.recording (update_part p s) s
unfolding update_step
update_part_step p s = settled_reads p.bytes (book_reading p s) p refl s

-- ---- the parts of an answer of the show
module _ (p : Packet) {rec : Bool} {ws vs : List ℕ} where
  module _ {r : SceneAnswer} (y : SceneAnswered (scene_part p) rec ws r vs) where
    pub scene_answer : r.graph ≡ (step_in show scene_step p []).told.graph
    scene_answer = graph_is y.answered ∙ ap (λ (a : After (List PositionSyntax) Given). a.told.graph) (sym (scene_part_step p []))

    pub scene_declares : take r.count r.shapes ≡ book_first show p
    scene_declares = y.answered.answered.value ∙ ap (λ (a : After (List PositionSyntax) Given). a.left) (sym (scene_part_step p []))

    pub scene_counts : r.count ≡ length (book_first show p)
    scene_counts = y.count ∙ ap (λ (a : After (List PositionSyntax) Given). length a.left) (sym (scene_part_step p []))

  module _ {s t : List PositionSyntax} {r : GraphAnswer} (y : GraphAnswered (update_part p s) s rec ws r t vs) where
    pub update_answer : r ≡ (step_in show update_step p s).told.graph
    update_answer = graph_is y ∙ ap (λ (a : After (List PositionSyntax) Given). a.told.graph) (sym (update_part_step p s))

    pub update_left : t ≡ (step_in show update_step p s).left
    update_left = y.answered.value ∙ ap (λ (a : After (List PositionSyntax) Given). a.left) (sym (update_part_step p s))

-- ---- with 81,920 words recording changes no reading
module _ (bs : List ℕ) (offset : ℕ) (ws vs : List ℕ) (room : 81920 ≤ length ws) where
  pub scene_enough : scene_part (packet_of bs offset true ws) ≡ scene_part (packet_of bs offset false vs)
  unfolding book_scene
  scene_enough = ap (part_reading bs) (enough bs (length vs) (length ws) _ 0 0 room)

  pub update_enough : (s : List PositionSyntax) → update_part (packet_of bs offset true ws) s ≡ update_part (packet_of bs offset false vs) s
  unfolding book_reading
  update_enough s = ap (part_reading bs) (enough bs (length vs) (length ws) _ 0 0 room)
