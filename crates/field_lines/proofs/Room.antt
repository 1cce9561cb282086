-- 256 bytes are enough for the line of every field.
use Prim.Native.Nat.{ℕ, ◌≤◌, ◌<◌, ◌^◌}
use mathlib.Core.Path.{◌≡◌}
use mathlib.Core.List.{List, ◌++◌}
use native.Mathlib.Omega.{arith}
use lib.ListN.{length}
use Rattle.std.specs.Prelude.{Option}
use Rattle.rules.specs.declared.Field.{Field}
use Rattle.rules.specs.declared.FieldValue.{FieldValue}
use Rattle.rules.specs.declared.FieldValue.TheVariants.{Flag, Number, Bits, Bytes}
use Rattle.rules.specs.Words.{word_of, field_at}
use Rattle.text.specs.Text.{ascii, decimal, newline, Lined}
use Rattle.text.proofs.Decimal.{decimal_most}
use Rattle.text.proofs.Lines.{both_most, number_most}
use Rattle.name_words.specs.NameText.{name_text}
use Rattle.name_words.proofs.Lengths.{name_short}
use Rattle.field_text.specs.FieldText.{unit, place_text, value_text}
use Rattle.field_lines.specs.FieldLine.{field_line, found_line, line_at}

unit_most : (v : FieldValue) → length (ascii (unit v)) ≤ 7
unfolding ascii
unit_most (Flag b) = omega arith
unit_most (Number n) = omega arith
unit_most (Bits n) = omega arith
unit_most (Bytes n) = omega arith

pub field_most : (f : Field) → f.name < 2 ^ 64 → length (field_line f) ≤ 256
unfolding field_line place_text value_text ascii
field_most f h =
    let place = both_most (decimal f.bit_offset) (ascii " " ++ decimal f.bit_length) {m = 20} {n = 21} (decimal_most _) (number_most (ascii " ") _ {m = 1} (omega arith)) in
    let value = both_most (ascii " " ++ decimal (word_of f.value)) (ascii (unit f.value)) {m = 21} {n = 7} (number_most (ascii " ") _ {m = 1} (omega arith)) (unit_most f.value) in
    let name = both_most (name_text f.name) newline {m = 128} {n = 1} (name_short f.name h) (omega arith) in
    let rest = both_most (value_text f.value) (name_text f.name ++ newline) value name in
    let most = both_most (place_text f) (value_text f.value ++ (name_text f.name ++ newline)) place rest in
    omega arith

-- The line of what was found in the words is that of their field.
pub line_of_found : (ws : List ℕ) (i : ℕ) {found : Option Field} {before after : List ℕ} {to : ℕ} → found ≡ field_at ws i → Lined before (found_line found) to after →
    Lined before (line_at ws i) to after
unfolding line_at
line_of_found ws i e l = rw (← e) l
