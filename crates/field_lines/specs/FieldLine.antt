-- The line of a field, and that of recorded words.
use Rattle.std.specs.Prelude.{ℕ, Option, Some, None, List, [], ◌++◌}
use Rattle.rules.specs.declared.Field.{Field}
use Rattle.rules.specs.Rule.{pick}
use Rattle.rules.specs.Words.{field_at}
use Rattle.text.specs.Text.{newline}
use Rattle.name_words.specs.NameText.{known, name_text}
use Rattle.field_text.specs.FieldText.{place_text, value_text}

-- a field: bit offset, bit length, value and name
unfoldable pub field_line : Field → List ℕ
field_line f = place_text f ++ (value_text f.value ++ (name_text f.name ++ newline))

-- The line of field `i` of recorded words: none where they hold no field, or one whose name is not known.
abbrev pub found_line : Option Field → List ℕ
found_line (Some f) = pick (known f.name) (field_line f) []
found_line None = []

unfoldable pub line_at : List ℕ → ℕ → List ℕ
line_at ws i = found_line (field_at ws i)
