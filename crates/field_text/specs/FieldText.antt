-- The place and the value of a field as text.
use Rattle.std.specs.Prelude.{ℕ, List, ◌++◌}
use Prim.Native.String.{String}
use Rattle.rules.specs.declared.Field.{Field}
use Rattle.rules.specs.declared.FieldValue.{FieldValue}
use Rattle.rules.specs.declared.FieldValue.TheVariants.{Flag, Number, Bits, Bytes}
use Rattle.rules.specs.Words.{word_of}
use Rattle.text.specs.Text.{ascii, decimal}

-- what stands between a value and the name: of a payload or a label its unit
abbrev pub unit : FieldValue → String
unit (Flag b) = " "
unit (Number n) = " "
unit (Bits n) = " bits "
unit (Bytes n) = " bytes "

unfoldable pub place_text : Field → List ℕ
place_text f = decimal f.bit_offset ++ (ascii " " ++ decimal f.bit_length)

unfoldable pub value_text : FieldValue → List ℕ
value_text v = (ascii " " ++ decimal (word_of v)) ++ ascii (unit v)
