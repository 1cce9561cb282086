-- What the answer of a reading says of what was lent.
use Prim.Native.Nat.{ℕ, ◌*◌, ◌≤◌}
use mathlib.Core.Path.{◌≡◌, refl, ◌∙◌}
use mathlib.Core.List.{List}
use mathlib.Core.Bool.{Bool, true, false}
use native.Mathlib.Omega.{arith}
use lib.ListN.{length}
use Rattle.rules.specs.declared.Answer.{Answer}
use Rattle.rules.specs.declared.Field.{Field}
use Rattle.rules.specs.Rule.{Rule}
use Rattle.rules.specs.Reading.{Reading, is_read}
use Rattle.rules.specs.Words.{encoded, recorded}
use Rattle.rules.specs.Answer.{answer_of, input_of, entry_reading, Answered}
use Rattle.rules.proofs.Words.{encoded_length, recorded_length}
use Rattle.rules.proofs.Answers.{value_unread}
use Rattle.text.specs.Text.{Put}
use Rattle.text.proofs.Puts.{put_after}
use Rattle.laws.proofs.Stays.{entry_place}
use Rattle.known_names.specs.Known.{Explained}
use Rattle.demand_1.specs.Demand.{KeptFrom, Kept, Said}

-- the words after those of the fields
pub words_rest : (rec : Bool) (ws : List ℕ) (fs : List Field) → KeptFrom (5 * length fs) ws (recorded rec ws 0 fs)
unfolding recorded
words_rest true ws fs =
    let put : Put ws 0 (encoded fs) (5 * length fs) (recorded true ws 0 fs) = record { place = omega (arith, encoded_length fs); bytes = refl } in
    put_after put
words_rest false ws fs = refl

pub words_off : (rec : Bool) (ws : List ℕ) (fs : List Field) → rec ≡ false → recorded rec ws 0 fs ≡ ws
unfolding recorded
words_off rec ws fs e = rw e

-- a reading at a bit of the bytes, whose number has a meaning, and what stands for its value where it was not read
pub reading_kept : {A B : Type 0} {x : Reading A} {bs : List ℕ} {rec : Bool} {ws : List ℕ} {a v : A} {r : Answer} {vs : List ℕ} (came left : B) →
    x.position ≤ 8 * length bs → Explained (answer_of x).outcome → Answered x a rec ws r v vs →
    (is_read (answer_of x).outcome ≡ false → v ≡ a → left ≡ came) → Said (Kept bs rec ws came left vs) r
reading_kept {x = x} {rec = rec} {ws = ws} {a = a} came left place number m unread =
    rw (m.answer, m.words)
    (record {
      number = number;
      place = place;
      unread = λ h. unread h (m.value ∙ value_unread a x.result h);
      words = words_rest rec ws x.fields;
      as_many = recorded_length rec ws 0 x.fields;
      off = words_off rec ws x.fields;
    })

-- so of a whole call, whose value is what was lent
pub call_kept : {A : Type 0} (bs : List ℕ) (rec : Bool) (ws : List ℕ) (own offset : ℕ) (rule : Rule A) {a v : A} {r : Answer} {vs : List ℕ} →
    Explained (answer_of (entry_reading (input_of bs rec ws) own offset rule)).outcome →
    Answered (entry_reading (input_of bs rec ws) own offset rule) a rec ws r v vs → Said (Kept bs rec ws a v vs) r
call_kept bs rec ws own offset rule {a} {v} number m = reading_kept a v (entry_place (input_of bs rec ws) own offset rule) number m (λ _ e. e)
