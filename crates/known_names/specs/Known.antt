-- Names that are known: the table has a row for the block and for the leaf, and the indices are in their range. And, by the same
-- law over rules, numbers that have words.
use Rattle.std.specs.Prelude.{ℕ, ◌<◌, ◌≡◌, Some, List, true}
use Rattle.rules.specs.declared.Answer.{Answer}
use Rattle.rules.specs.declared.Field.{Field}
use Rattle.rules.specs.declared.Outcome.{Outcome}
use Rattle.rules.specs.declared.Outcome.TheVariants.{Refused, Stopped}
use Rattle.rules.specs.Rule.{Rule}
use Rattle.rules.specs.Reading.{Reading}
use Rattle.rules.specs.Words.{field_at}
use Rattle.name_words.specs.NameText.{known}
use Rattle.numbers.specs.Meaning.{HasWords}
use Rattle.laws.specs.Named.{Names, Any, Told}

pub record Known (w : ℕ) : Type 0 where
  pub is_known : known w ≡ true

-- of every name that a rule can record, and of every number by which it can end
abbrev pub KnownNames : {A : Type 0} → Rule A → Type 0
KnownNames r = Names Known HasWords Any r

-- of every field of a reading, and of the number by which it ended
abbrev pub AllKnown : {A : Type 0} → Reading A → Type 0
AllKnown x = Told Known HasWords x

-- of the field that the words of a call hold in place `n`, read back as `Field::at` does
pub record ReadBackKnown (words : List ℕ) (n : ℕ) : Type 0 where
  pub field : Field
  pub there : field_at words n ≡ Some field
  pub is_known : Known field.name

-- of every field that a call has counted and recorded
abbrev pub RecordedKnown : Answer → List ℕ → Type 0
RecordedKnown answer words = (n : ℕ) → n < answer.fields → ReadBackKnown words n

-- an outcome whose number, if it has one, has words
pub record Explained (o : Outcome) : Type 0 where
  pub refused : (n : ℕ) → o ≡ Refused n → HasWords n
  pub stopped : (n : ℕ) → o ≡ Stopped n → HasWords n
