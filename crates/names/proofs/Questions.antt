-- What is promised at each way out of the call.
use Prim.Native.Nat.{ℕ, ◌+◌, ◌≤◌, ◌<◌}
use mathlib.Core.Path.{◌≡◌, refl, sym}
use mathlib.Core.List.{List, ◌++◌}
use mathlib.Core.Bool.{true, false}
use borrow.Author.Tests.{le-leb, lt-leb}
use native.Mathlib.Omega.{arith}
use lib.ListN.{length, drop}
use lib.Seq.{sets-eq}
use Rattle.rules.specs.declared.Outcome.TheVariants.{Read, Refused}
use Rattle.text.specs.declared.TextAnswer.{TextAnswer}
use Rattle.name_words.specs.NameText.{known, name_text}
use Rattle.names.specs.NameAnswer.{room_question, name_question, NameAnswered}

module _ (w : ℕ) (bytes : List ℕ) where
  pub too_few : length bytes < length (name_text w) →
      NameAnswered w (room_question w (length bytes)) bytes (record { outcome = Refused 26; position = 0; length = 0 }) bytes
  unfolding room_question
  too_few h = rw (lt-leb (length (name_text w)) (length bytes) h) (record { answer = refl; text = refl })

  pub enough : length (name_text w) ≤ length bytes →
      NameAnswered w (room_question w (length bytes)) bytes (record { outcome = Read; position = 0; length = length (name_text w) }) (name_text w ++ drop (length (name_text w)) bytes)
  unfolding room_question
  enough h =
      let e : 0 + length (name_text w) ≡ length (name_text w) = omega arith in
      rw (le-leb (length (name_text w)) (length bytes) h) (record { answer = refl; text = sym (rw e at (sets-eq (name_text w) bytes 0 (omega arith))) })

  pub not_known : known w ≡ false → NameAnswered w (name_question w (length bytes)) bytes (record { outcome = Refused 25; position = 0; length = 0 }) bytes
  unfolding name_question
  not_known h = rw h (record { answer = refl; text = refl })

  pub if_known : {r : TextAnswer} {after : List ℕ} → known w ≡ true → NameAnswered w (room_question w (length bytes)) bytes r after →
      NameAnswered w (name_question w (length bytes)) bytes r after
  unfolding name_question
  if_known h x = rw h x
