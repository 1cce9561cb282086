-- The calls that put a text into lent bytes: a name, and a show.
use Prim.Native.Nat.{ℕ}
use mathlib.Core.Path.{◌≡◌, refl}
use mathlib.Core.List.{List}
use mathlib.Core.Bool.{Bool, true, false}
use mathlib.Core.Logic.{◌⊎◌, inl, inr}
use native.Mathlib.Omega.{arith}
use lib.Dec.{leb}
use lib.ListN.{length}
use Rattle.rules.specs.declared.Outcome.{Outcome}
use Rattle.rules.specs.declared.Outcome.TheVariants.{Read, Refused}
use Rattle.rules.specs.Rule.{pick}
use Rattle.text.specs.declared.TextAnswer.{TextAnswer}
use Rattle.text.specs.Text.{Put}
use Rattle.text.proofs.Puts.{put_long, put_after}
use Rattle.name_words.specs.NameText.{known, name_text}
use Rattle.names.specs.NameAnswer.{room_question, name_question, NameAnswered}
use Rattle.names.proofs.Call.{refused_unchanged}
use Rattle.show_header.specs.Header.{is_sound, file_question}
use Rattle.show.specs.Show.{file_outcome, ShowAnswered}
use Rattle.demand_1.specs.Demand.{TextKept, NameKept, SaidOfText}

module _ {w : ℕ} {bytes after : List ℕ} {r : TextAnswer} where
  -- by the two questions
  asked : (is_Known has_room : Bool) → NameAnswered w (pick is_Known (pick has_room 0 26) 25) bytes r after → SaidOfText (TextKept 25 26 bytes after) r
  asked true true m =
      let put : Put bytes 0 (name_text w) (length (name_text w)) after = record { place = omega arith; bytes = m.text } in
      rw m.answer (record { number = inl refl; place = refl; rest = put_after put; as_many = put_long put })
  asked true false m = rw (m.answer, m.text) (record { number = inr (inr refl); place = refl; rest = refl; as_many = refl })
  asked false has_room m = rw (m.answer, m.text) (record { number = inr (inl refl); place = refl; rest = refl; as_many = refl })

  text_kept : NameAnswered w (name_question w (length bytes)) bytes r after → SaidOfText (TextKept 25 26 bytes after) r
  unfolding name_question room_question
  text_kept m = asked (known w) (leb (length (name_text w)) (length bytes)) m

  pub name_kept : NameAnswered w (name_question w (length bytes)) bytes r after → SaidOfText (NameKept bytes after) r
  name_kept m = record { kept = text_kept m; unread = λ n e. refused_unchanged m e }

-- a show, by the questions of its file
file_number : (file : List ℕ) {o : Outcome} → o ≡ file_outcome (file_question file) → (o ≡ Read) ⊎ ((o ≡ Refused 23) ⊎ (o ≡ Refused 24))
unfolding file_question
file_number file {o} e = by (leb (length file) 65536) (is_sound file) e
  where
    by : (fits sound : Bool) → o ≡ file_outcome (pick fits (pick sound 0 24) 23) → (o ≡ Read) ⊎ ((o ≡ Refused 23) ⊎ (o ≡ Refused 24))
    by true true e = inl e
    by true false e = inr (inr e)
    by false sound e = inr (inl e)

pub show_kept : {file before : List ℕ} {r : TextAnswer} {after : List ℕ} → ShowAnswered file before r after → SaidOfText (TextKept 23 24 before after) r
show_kept {file} m = record { number = file_number file m.outcome; place = m.position; rest = put_after m.text; as_many = put_long m.text }
