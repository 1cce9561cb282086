-- What `scene-fields` prints of a reading: a line for each field, and then one for the outcome.
use Rattle.std.specs.Prelude.{ℕ, List, [], ◌∷◌, ◌++◌}
use Rattle.rules.specs.declared.Field.{Field}
use Rattle.rules.specs.Reading.{Reading}
use Rattle.rules.specs.Answer.{answer_of}
use Rattle.field_lines.specs.FieldLine.{field_line}
use Rattle.outcome_lines.specs.OutcomeLine.{outcome_line}

unfoldable pub field_lines : List Field → List ℕ
field_lines [] = []
field_lines (f ∷ fs) = field_line f ++ field_lines fs

abbrev pub listing : {A : Type 0} → Reading A → List ℕ
listing x = field_lines x.fields ++ outcome_line (answer_of x)
