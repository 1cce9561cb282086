-- The words of the readings by value: each field that they count and record is read back from them with a known name.
use Prim.Native.Nat.{ℕ, zero, suc, ◌+◌, ◌*◌, ◌<◌, ◌≤◌}
use mathlib.Core.Path.{◌≡◌, refl, ap}
use mathlib.Core.List.{List, [], ◌∷◌, ◌++◌}
use mathlib.Core.Bool.{Bool, true}
use native.Mathlib.Omega.{arith}
use lib.ListN.{length, length-take, take}
use Rattle.std.specs.Prelude.{Some}
use Rattle.rules.specs.declared.Answer.{Answer}
use Rattle.rules.specs.declared.Field.{Field}
use Rattle.rules.specs.Rule.{Rule}
use Rattle.rules.specs.Words.{recorded, field_at}
use Rattle.rules.specs.Answer.{input_of, entry_reading, Answered}
use Rattle.position.specs.declared.PositionSyntax.{PositionSyntax}
use Rattle.position_alone.specs.Entry.{position_reading}
use Rattle.scene.specs.declared.SceneAnswer.{SceneAnswer}
use Rattle.scene.specs.Scene.{scene_reading, SceneAnswered}
use Rattle.update.specs.declared.UpdateAnswer.{UpdateAnswer}
use Rattle.update.specs.Update.{update_reading, UpdateAnswered}
use Rattle.metadata.specs.Entry.{metadata_reading}
use Rattle.laws.specs.Named.{AllNamed}
use Rattle.laws.proofs.Front.{entry_fits}
use Rattle.laws.proofs.Back.{field_back}
use Rattle.known_names.specs.Known.{Known, AllKnown, RecordedKnown}
use Rattle.known_names.proofs.Position.{position_alone_known}
use Rattle.known_names.proofs.Scene.{scene_known}
use Rattle.known_names.proofs.Update.{update_known}
use Rattle.known_names.proofs.Metadata.{metadata_known}

-- one of the fields, those before it and those after it
record Among (n : ℕ) (fs : List Field) : Type 0 where
  before : List Field
  field : Field
  after : List Field
  same : fs ≡ before ++ field ∷ after
  place : 0 + length before ≡ n
  is_known : Known field.name

among : (n : ℕ) (fs : List Field) → AllNamed Known fs → n < length fs → Among n fs
unfolding AllNamed
among n [] a h = absurd (omega arith)
among zero (f ∷ fs) a h = record { before = []; field = f; after = fs; same = refl; place = refl; is_known = a.0 }
among (suc n) (f ∷ fs) a h =
    let x = among n fs a.1 (omega arith) in
    record {
      before = f ∷ x.before;
      field = x.field;
      after = x.after;
      same = ap (λ (l : List Field). f ∷ l) x.same;
      place = omega (arith, x.place);
      is_known = x.is_known;
    }

-- it is read back from the words that hold them all
pub stands : (ws vs : List ℕ) (before : List Field) (f : Field) (after fs : List Field) (n : ℕ) → fs ≡ before ++ f ∷ after → 0 + length before ≡ n →
    5 * length fs ≤ length ws → vs ≡ recorded true ws 0 fs → field_at vs n ≡ Some f
stands ws vs before f after fs n same place room words = rw (words, same, ← place) (field_back ws 0 before f after (let fit = rw same at room in omega arith))

-- of every call whose promise is `Answered`, of a reading whose names are known
recorded_known : {A : Type 0} (bs ws : List ℕ) (own offset : ℕ) (r : Rule A) {a v : A} {answer : Answer} {vs : List ℕ} →
    AllKnown (entry_reading (input_of bs true ws) own offset r) →
    Answered (entry_reading (input_of bs true ws) own offset r) a true ws answer v vs → RecordedKnown answer vs
recorded_known bs ws own offset r {vs = vs} all answered n h =
    let x = entry_reading (input_of bs true ws) own offset r in
    let counted = ap (λ (t : Answer). t.fields) answered.answer in
    let f = among n x.fields all.fields (omega arith) in
    record {
      field = f.field;
      there = stands ws vs f.before f.field f.after x.fields n f.same f.place (entry_fits bs ws own offset r) answered.words;
      is_known = f.is_known;
    }

-- so of each call that a user makes, by what it promises
module _ (bs ws : List ℕ) (offset : ℕ) {vs : List ℕ} where
  pub scene_recorded : {r : SceneAnswer} → SceneAnswered (scene_reading (input_of bs true ws) offset) true ws r vs → RecordedKnown r.graph.answer vs
  scene_recorded p = recorded_known bs ws _ offset _ (scene_known _ offset) p.answered.answered

  pub update_recorded : (count : ℕ) (shapes : List PositionSyntax) {r : UpdateAnswer} →
      UpdateAnswered (update_reading (input_of bs true ws) offset count (take count shapes)) count shapes true ws r vs → RecordedKnown r.graph.answer vs
  update_recorded count shapes p = recorded_known bs ws _ offset _ (update_known _ offset count (take count shapes) (omega (arith, length-take count shapes))) p.answered.answered

  pub position_recorded : (shape : PositionSyntax) (full : Bool) {to : PositionSyntax} {answer : Answer} →
      Answered (position_reading (input_of bs true ws) offset shape full) shape true ws answer to vs → RecordedKnown answer vs
  position_recorded shape full p = recorded_known bs ws _ offset _ (position_alone_known _ offset shape full) p

  pub metadata_recorded : {answer : Answer} → Answered (metadata_reading (input_of bs true ws) offset) tt true ws answer tt vs → RecordedKnown answer vs
  metadata_recorded p = recorded_known bs ws _ offset _ (metadata_known _ offset) p
