-- What a rule means: the reading that it gives of bytes, from a position, up to an end, with fields counted before it.
use Rattle.std.specs.Prelude.{ℕ, ◌+◌, ◌-◌, ◌*◌, List, [], ◌∷◌, Bool, true, false, not, ◌||◌, ◌&&◌, length, ltb, leb}
use Rattle.bits.specs.Bits.{bits_at}
use Rattle.rules.specs.declared.Field.{Field}
use Rattle.rules.specs.declared.FieldValue.{FieldValue}
use Rattle.rules.specs.declared.Outcome.{Outcome}
use Rattle.rules.specs.declared.Outcome.TheVariants.{Read, Refused, Stopped}
use Rattle.rules.specs.Rule.{Rule, done, ends, position_then, end_then, bits_then, skip_then, field_then, set_end_then, End, refused, pick}

-- the value of a rule that was read, or how it ended
pub data Result (A : Type 0) : Type 0 where
  read : A → Result A
  ended : End → Result A

pub record Reading (A : Type 0) : Type 0 where
  pub result : Result A
  pub position : ℕ
  pub end : ℕ
  pub fields : List Field

-- What is read: the bytes, whether fields are recorded, and in how many words.
pub record Input : Type 0 where
  pub bytes : List ℕ
  pub recording : Bool
  pub room : ℕ

-- a reading that ends where it stands, and one with a field in front
abbrev pub ended_at : {A : Type 0} → End → ℕ → ℕ → Reading A
ended_at x p e = record { result = ended x; position = p; end = e; fields = [] }

abbrev pub with : {A : Type 0} → Field → Reading A → Reading A
with f r = record { result = r.result; position = r.position; end = r.end; fields = f ∷ r.fields }

-- the field from `start` up to the position `p`
abbrev pub field_to : ℕ → ℕ → FieldValue → ℕ → Field
field_to name start v p = record { bit_offset = start; bit_length = p - start; value = v; name = name }

-- five words for one field more
abbrev pub has_room : Input → ℕ → Bool
has_room i n = not i.recording || leb (5 * n + 5) i.room

-- an end that is not before the position, nor past the bytes
abbrev pub inside : Input → ℕ → ℕ → Bool
inside i p x = leb p x && leb x (8 * length i.bytes)

-- at the position `p`, up to the end `e`, with `n` fields counted: questions 3, 4 and 5 are asked here
unfoldable pub reading : {A : Type 0} → Input → Rule A → ℕ → ℕ → ℕ → Reading A
reading i (done a) p e n = record { result = read a; position = p; end = e; fields = [] }
reading i (ends x) p e n = ended_at x p e
reading i (position_then k) p e n = reading i (k p) p e n
reading i (end_then k) p e n = reading i (k e) p e n
reading i (bits_then w k) p e n = pick (ltb (e - p) w) (ended_at (refused 3) p e) (reading i (k (bits_at i.bytes p w)) (p + w) e n)
reading i (skip_then w k) p e n = pick (ltb (e - p) w) (ended_at (refused 3) p e) (reading i k (p + w) e n)
reading i (field_then name start v k) p e n =
    pick (ltb n 16384)
    (pick (has_room i n)
    (with (field_to name start v p) (reading i k p e (n + 1)))
    (ended_at (refused 5) p e))
    (ended_at (refused 4) p e)
reading i (set_end_then x k) p e n = pick (inside i p x) (reading i k p x n) (ended_at (refused 3) p e)

-- What the code's enum stands for.
abbrev pub is_read : Outcome → Bool
is_read Read = true
is_read (Refused n) = false
is_read (Stopped n) = false
