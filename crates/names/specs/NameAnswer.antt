-- What writing the text of a name word into lent bytes answers.
use Rattle.std.specs.Prelude.{ℕ, ◌≡◌, List, Result, Ok, Err, eqb, leb, length}
use Rattle.std.proofs.lemmas.List.Edits.{sets}
use Rattle.rules.specs.declared.Outcome.TheVariants.{Read, Refused}
use Rattle.rules.specs.declared.reason.Reason.{Reason}
use Rattle.rules.specs.Rule.{pick}
use Rattle.rules.specs.Reason.{end_of}
use Rattle.rules.specs.Answer.{end_outcome}
use Rattle.text.specs.declared.TextAnswer.{TextAnswer}
use Rattle.name_words.specs.NameText.{known, name_text}

-- question 26, whether so many bytes are enough, and 25, whether the word is known, which comes first: the number of the
-- first that is not met, or 0
unfoldable pub room_question : ℕ → ℕ → ℕ
room_question w room = pick (leb (length (name_text w)) room) 0 26

unfoldable pub name_question : ℕ → ℕ → ℕ
name_question w room = pick (known w) (room_question w room) 25

abbrev pub name_answer : ℕ → ℕ → TextAnswer
name_answer w number =
    pick (eqb number 0)
    (record { outcome = Read; position = 0; length = length (name_text w) })
    (record { outcome = Refused number; position = 0; length = 0 })

-- the answer that a result gives
abbrev pub text_answer : Result ℕ Reason → TextAnswer
text_answer (Ok n) = record { outcome = Read; position = 0; length = n }
text_answer (Err e) = record { outcome = end_outcome (end_of e); position = 0; length = 0 }

-- What the call promises by that number: its answer, and every byte. The text stands at the beginning, if at all.
pub record NameAnswered (w number : ℕ) (bytes : List ℕ) (r : TextAnswer) (after : List ℕ) : Type 0 where
  pub answer : r ≡ name_answer w number
  pub text : after ≡ pick (eqb number 0) (sets bytes 0 (name_text w)) bytes
