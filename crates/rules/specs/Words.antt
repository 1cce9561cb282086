-- Fields as words, five for each: bit offset, bit length, kind, value, name word.
use Rattle.std.specs.Prelude.{ℕ, ◌+◌, ◌*◌, Option, Some, None, List, [], ◌∷◌, ◌++◌, Bool, true, false, ◌&&◌, length, get_or, leb, eqb}
use Rattle.std.proofs.lemmas.List.Edits.{sets}
use Rattle.rules.specs.declared.Field.{Field}
use Rattle.rules.specs.declared.FieldValue.{FieldValue}
use Rattle.rules.specs.declared.FieldValue.TheVariants.{Flag, Number, Bits, Bytes}
use Rattle.rules.specs.Rule.{pick}

-- document 01's number for each kind of value
abbrev pub kind_of : FieldValue → ℕ
kind_of (Flag b) = 0
kind_of (Number n) = 1
kind_of (Bits n) = 2
kind_of (Bytes n) = 3

-- and its value
abbrev pub word_of : FieldValue → ℕ
word_of (Flag b) = pick b 1 0
word_of (Number n) = n
word_of (Bits n) = n
word_of (Bytes n) = n

abbrev pub words_of : Field → List ℕ
words_of f = f.bit_offset ∷ f.bit_length ∷ kind_of f.value ∷ word_of f.value ∷ f.name ∷ []

unfoldable pub encoded : List Field → List ℕ
encoded [] = []
encoded (f ∷ fs) = words_of f ++ encoded fs

-- the words with fields from field `n` on; with recording off they are left alone
unfoldable pub recorded : Bool → List ℕ → ℕ → List Field → List ℕ
recorded true ws n fs = sets ws (5 * n) (encoded fs)
recorded false ws n fs = ws

-- A field read back: whether a kind and a number make a value, which, and the field in the five words of index `i`.
abbrev pub is_value : ℕ → ℕ → Bool
is_value kind n = pick (eqb kind 0) (leb n 1) (leb kind 3)

abbrev pub value_from : ℕ → ℕ → FieldValue
value_from kind n = pick (eqb kind 0) (Flag (eqb n 1)) (pick (eqb kind 1) (Number n) (pick (eqb kind 2) (Bits n) (Bytes n)))

abbrev pub value_at : ℕ → ℕ → Option FieldValue
value_at kind n = pick (is_value kind n) (Some (value_from kind n)) None

unfoldable pub field_at : List ℕ → ℕ → Option Field
field_at ws i =
    let k = 5 * i in
    pick (leb (k + 5) (length ws) && is_value (get_or ws (k + 2) 0) (get_or ws (k + 3) 0))
    (Some
    (record {
      bit_offset = get_or ws k 0;
      bit_length = get_or ws (k + 1) 0;
      value = value_from (get_or ws (k + 2) 0) (get_or ws (k + 3) 0);
      name = get_or ws (k + 4) 0;
    }))
    None
