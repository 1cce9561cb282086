-- What a record of the oracle holds, as oracle/README.md lays it out: numbers with the highest byte first, and the 34 bytes of
-- its head.
use Rattle.std.specs.Prelude.{not, nat_eq, bit_and, ℕ, ◌≤◌, [], length, take, ◌+◌, ◌*◌, ◌%◌, ◌^◌, ◌≡◌, List, Option, Some, None, option_map, if◌then◌else◌, ◌==◌, slice_index, Result, MatchResult, fold, slice_range}
use Rattle.std.specs.Io.KnownBytes.{Consumes}
use Rattle.rules.specs.declared.Answer.{Answer}
use Rattle.rules.specs.declared.Outcome.{Outcome}
use Rattle.rules.specs.declared.Outcome.TheVariants.{Read, Refused, Stopped}
use Rattle.position.specs.declared.PositionSyntax.{PositionSyntax}
use Rattle.record.specs.declared.Kind.{Kind}
use Rattle.record.specs.declared.Kind.TheVariants.{Reading, Name, Show, Parents}
use Rattle.record.specs.declared.Reading.TheVariants.{Fields, Scene, Update, Position, Validation, Metadata}
use Rattle.record.specs.declared.Head.{Head}
use Rattle.record.specs.declared.NoRecord.{NoRecord}

-- a number and one byte more, in 64 bits
abbrev pub with_byte : ℕ → ℕ → ℕ
with_byte number byte = (number * 256) % 2 ^ 64 + byte

-- the number that bytes are, the highest first
unfoldable pub big_endian : List ℕ → ℕ
big_endian bytes = fold with_byte 0 bytes

-- the code of what a record asks for
abbrev pub code_of : Kind → ℕ
code_of (Reading Fields) = 0
code_of (Reading Scene) = 1
code_of (Reading Update) = 2
code_of (Reading Position) = 3
code_of (Reading Validation) = 4
code_of (Reading Metadata) = 5
code_of Name = 6
code_of Show = 7
code_of Parents = 8

-- what has a code, or none if nothing has it
abbrev pub Decodes : ℕ → Result Kind NoRecord → Type 0
Decodes n r = MatchResult r (λ kind. code_of kind ≡ n) (λ _. (kind : Kind) → code_of kind ≡ n → ⊥)

-- the number that a head has in its bytes from one to another
abbrev pub field_of : List ℕ → ℕ → ℕ → ℕ
field_of head from to = big_endian (slice_range head from to)

-- the outcome of a code and a number, if it is one: what was read has the number 0
abbrev pub outcome_from : ℕ → ℕ → Option Outcome
outcome_from code n =
    if code == 0 then (if n == 0 then Some Read else None)
    else (if code == 1 then Some (Refused n)
    else (if code == 2 then Some (Stopped n) else None))

-- the answer that a head has
abbrev pub answer_in : List ℕ → Option Answer
answer_in head =
    option_map (λ outcome. record { outcome = outcome; position = field_of head 22 30; fields = field_of head 30 34 })
    (outcome_from (slice_index head 20) (slice_index head 21))

-- the bytes of a head, if there is one more
abbrev pub bytes_of : Option Head → List ℕ
bytes_of None = []
bytes_of (Some head) = head.0

-- so many of the bytes are those that the input had next, and it has them no more
abbrev pub BeginsWithNext : Option (List ℕ) → Option (List ℕ) → List ℕ → Type 0
BeginsWithNext before after bytes = (n : ℕ) × (n ≤ length bytes) × Consumes before after (take n bytes)

-- a value of so many bytes, of which the first are those that the input had next
abbrev pub NextIs : {T : Type 0} → ℕ → (List ℕ → T) → Option (List ℕ) → Option (List ℕ) → T → Type 0
NextIs size value before after result = (bytes : List ℕ) × (length bytes ≡ size) × BeginsWithNext before after bytes × (result ≡ value bytes)

-- the shape that 20 bytes are: its flags, three bytes of 0, its precisions and its parent
abbrev pub shape_of : List ℕ → PositionSyntax
shape_of bytes =
    let flags = slice_index bytes 0 in
    record {
      «parent_dynamic» = not (nat_eq (bit_and flags 1) 0);
      «range_dynamic» = not (nat_eq (bit_and flags 2) 0);
      «position_precision» = field_of bytes 4 8;
      «rotation_precision» = field_of bytes 8 12;
      parent = field_of bytes 12 20;
      polar = not (nat_eq (bit_and flags 4) 0);
    }
