-- The numbers that any call can give have words, and so do those that are computed: of question 2, and of validation.
use Prim.Native.Nat.{ℕ}
use mathlib.Core.Path.{◌≡◌, refl}
use mathlib.Core.List.{List}
use mathlib.Core.Bool.{Bool, true, false}
use mathlib.Core.Logic.{◌⊎◌, inl, inr}
use borrow.Author.Tests.{eq-eqb}
use lib.Dec.{eqb}
use Rattle.rules.specs.Rule.{Rule, pick}
use Rattle.rules.specs.Reading.{Input}
use Rattle.rules.specs.Answer.{entry_reading}
use Rattle.rules.proofs.Laws.{never}
use Rattle.ranks.specs.Rank.{verdict, ForParents}
use Rattle.ranks.proofs.Ranks.{number_cases}
use Rattle.numbers.specs.Meaning.{HasWords}
use Rattle.numbers.proofs.Distinct.{has_words}
use Rattle.laws.specs.Named.{OfReadings}
use Rattle.laws.proofs.Named.{entry_told}
use Rattle.known_names.specs.Known.{KnownNames, AllKnown}

pub of_readings : OfReadings HasWords
of_readings = record { bits = has_words 3 refl; count = has_words 4 refl; room = has_words 5 refl }

-- the number of a call's own question: 2, or 0 where it is met or there is none
pub own_words : (b : Bool) → eqb (pick b 0 2) 0 ≡ false → HasWords (pick b 0 2)
own_words true e = never refl e
own_words false e = has_words 2 refl

pub verdict_words : (ps : List ℕ) → eqb (verdict ps) 0 ≡ false → HasWords (verdict ps)
verdict_words ps e = by (number_cases ps)
  where
    by : (verdict ps ≡ 0) ⊎ ForParents (verdict ps) → HasWords (verdict ps)
    by (inl z) = never (eq-eqb (verdict ps) 0 z) e
    by (inr (inl z)) = rw z (has_words 8 refl)
    by (inr (inr z)) = rw z (has_words 9 refl)

-- a whole call
pub call_known : {A : Type 0} {r : Rule A} (i : Input) (own offset : ℕ) → (eqb own 0 ≡ false → HasWords own) → (own ≡ 0 → KnownNames r) →
    AllKnown (entry_reading i own offset r)
call_known i own offset h k = entry_told of_readings (has_words 1 refl) i own offset h k
