-- What holds of every name that a rule can record, of every number by which it can end, and of every value that it can come to.
use Rattle.std.specs.Prelude.{ℕ, ◌+◌, ◌-◌, ◌^◌, ◌<◌, List, [], ◌∷◌}
use Rattle.rules.specs.declared.Field.{Field}
use Rattle.rules.specs.declared.Outcome.{Outcome}
use Rattle.rules.specs.declared.Outcome.TheVariants.{Read, Refused, Stopped}
use Rattle.rules.specs.Rule.{Rule, done, ends, position_then, end_then, bits_then, skip_then, field_then, set_end_then}
use Rattle.rules.specs.Reading.{Reading}
use Rattle.rules.specs.Answer.{end_outcome, outcome_of}

-- E of the number of an outcome, if it has one
abbrev pub Numbered : (ℕ → Type 0) → Outcome → Type 0
Numbered E Read = Unit {0}
Numbered E (Refused n) = E n
Numbered E (Stopped n) = E n

-- P of every name, E of every number and Q of every value, wherever the reading stands and whatever the bits are
unfoldable pub Named : {A : Type 0} → (ℕ → Type 0) → (ℕ → Type 0) → (A → Type 0) → Rule A → Type 0
Named P E Q (done a) = Q a
Named P E Q (ends x) = Numbered E (end_outcome x)
Named P E Q (position_then k) = (p : ℕ) → Named P E Q (k p)
Named P E Q (end_then k) = (e : ℕ) → Named P E Q (k e)
Named P E Q (bits_then w k) = (v : ℕ) → v < 2 ^ w → Named P E Q (k v)
Named P E Q (skip_then w k) = Named P E Q k
Named P E Q (field_then name start v k) = P name × Named P E Q k
Named P E Q (set_end_then x k) = Named P E Q k

pub record Names {A : Type 0} (P E : ℕ → Type 0) (Q : A → Type 0) (r : Rule A) : Type 0 where
  pub named : Named P E Q r

-- of a value of which nothing is said
abbrev pub Any : {A : Type 0} → A → Type 0
Any a = Unit {0}

-- E of the numbers that a reading gives whatever its rule is
pub record OfReadings (E : ℕ → Type 0) : Type 0 where
  pub bits : E 3
  pub count : E 4
  pub room : E 5

-- P of the name of every field
unfoldable pub AllNamed : (ℕ → Type 0) → List Field → Type 0
AllNamed P [] = Unit {0}
AllNamed P (f ∷ fs) = P f.name × AllNamed P fs

-- of a reading: P of the names of its fields, E of the number by which it ended
pub record Told {A : Type 0} (P E : ℕ → Type 0) (x : Reading A) : Type 0 where
  pub fields : AllNamed P x.fields
  pub outcome : Numbered E (outcome_of x.result)

-- the greatest number that parts of these widths come to
abbrev pub most : List ℕ → ℕ
most [] = 0
most (w ∷ ws) = 2 ^ w - 1 + most ws
