-- What document 01 says of a call: a word that is not known is refused with 25 and too few bytes with 26, at position 0, and the
-- bytes are left unchanged; any other text is written, its length is given, and the bytes after it are left unchanged.
use Prim.Native.Nat.{ℕ, ◌≤◌, ◌<◌}
use mathlib.Core.Path.{◌≡◌, refl, ap}
use mathlib.Core.List.{List}
use mathlib.Core.Bool.{Bool, true, false}
use native.Mathlib.Omega.{arith}
use borrow.Author.Tests.{le-leb, lt-leb}
use lib.Dec.{eqb}
use lib.ListN.{length, take, drop}
use Rattle.rules.specs.declared.Outcome.{Outcome}
use Rattle.rules.specs.declared.Outcome.TheVariants.{Read, Refused, Stopped}
use Rattle.rules.specs.Rule.{pick}
use Rattle.rules.proofs.Laws.{never}
use Rattle.text.specs.Text.{Put}
use Rattle.text.specs.declared.TextAnswer.{TextAnswer}
use Rattle.text.proofs.Puts.{put_front, put_after}
use Rattle.name_words.specs.NameText.{known, name_text}
use Rattle.names.specs.NameAnswer.{room_question, name_question, NameAnswered}

abbrev is_read : Outcome → Bool
is_read Read = true
is_read (Refused n) = false
is_read (Stopped n) = false

-- the text in its place, and no other byte changed
pub record Written (w : ℕ) (bytes : List ℕ) (r : TextAnswer) (after : List ℕ) : Type 0 where
  pub answer : r ≡ record { outcome = Read; position = 0; length = length (name_text w) }
  pub text : take r.length after ≡ name_text w
  pub unchanged : drop r.length after ≡ drop r.length bytes

module _ {w : ℕ} {bytes after : List ℕ} {r : TextAnswer} (call : NameAnswered w (name_question w (length bytes)) bytes r after) where
  pub unknown_is_25 : known w ≡ false → r ≡ record { outcome = Refused 25; position = 0; length = 0 }
  unfolding name_question
  unknown_is_25 k = (rw k at call).answer

  pub too_few_is_26 : known w ≡ true → length bytes < length (name_text w) → r ≡ record { outcome = Refused 26; position = 0; length = 0 }
  unfolding name_question room_question
  too_few_is_26 k h = (rw (k, lt-leb (length (name_text w)) (length bytes) h) at call).answer

  -- whatever the number, a refusal leaves every byte unchanged
  pub refused_unchanged : {n : ℕ} → r.outcome ≡ Refused n → after ≡ bytes
  refused_unchanged {n} e = go (eqb (name_question w (length bytes)) 0) _ call.answer call.text
    where
      go : (b : Bool) (text : List ℕ) → r ≡ pick b (record { outcome = Read; position = 0; length = length (name_text w) }) (record { outcome = Refused (name_question w (length bytes)); position = 0; length = 0 }) →
          after ≡ pick b text bytes → after ≡ bytes
      go true text answer is = never (ap (λ (a : TextAnswer). is_read a.outcome) answer) (ap is_read e)
      go false text answer is = is

  pub written : known w ≡ true → length (name_text w) ≤ length bytes → Written w bytes r after
  unfolding name_question room_question
  written k h =
      let here = rw (k, le-leb (length (name_text w)) (length bytes) h) at call in
      let put : Put bytes 0 (name_text w) (length (name_text w)) after = record { place = omega arith; bytes = here.text } in
      rw here.answer (record { answer = refl; text = put_front put h; unchanged = put_after put })
