-- What `scene-fields` prints: the line of each counted field of the words, and then that of the outcome.
use Rattle.std.specs.Prelude.{ℕ, zero, suc, ◌+◌, List, [], ◌++◌, Result, Ok, Err}
use Rattle.rules.specs.declared.Answer.{Answer}
use Rattle.part_fields.specs.declared.NotRead.{NotRead}
use Rattle.part_fields.specs.Part.{Listed}
use Rattle.field_lines.specs.FieldLine.{line_at}
use Rattle.outcome_lines.specs.OutcomeLine.{outcome_line}
use Rattle.listing.specs.Listing.{field_lines}

-- the lines of n fields from field i on
unfoldable pub lines : List ℕ → ℕ → ℕ → List ℕ
lines ws zero i = []
lines ws (suc n) i = line_at ws i ++ lines ws n (i + 1)

abbrev pub printed : Answer → List ℕ → List ℕ
printed answer ws = lines ws answer.fields 0 ++ outcome_line answer

-- The listing of a part of a show: nothing of one that is not read.
abbrev pub part_end : Result Answer NotRead → List ℕ
part_end (Ok answer) = outcome_line answer
part_end (Err e) = []

abbrev pub part_listing : Listed → List ℕ
part_listing x = field_lines x.fields ++ part_end x.answer
