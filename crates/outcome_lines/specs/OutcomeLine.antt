-- The line of an outcome.
use Rattle.std.specs.Prelude.{ℕ, List, [], ◌∷◌, ◌++◌}
use Prim.Native.String.{String}
use Rattle.rules.specs.declared.Answer.{Answer}
use Rattle.rules.specs.declared.Outcome.{Outcome}
use Rattle.rules.specs.declared.Outcome.TheVariants.{Read, Refused, Stopped}
use Rattle.text.specs.Text.{ascii, decimal, newline, line}
use Rattle.numbers.specs.Meaning.{meaning}

-- a refusal or a stop: the number, the bit position, and what the number means
abbrev pub ended_text : List ℕ → ℕ → ℕ → List ℕ
ended_text word n position = (word ++ decimal n) ++ ((ascii " at " ++ decimal position) ++ (ascii ": " ++ (meaning n ++ newline)))

-- the same, its word as text
unfoldable pub end_line : String → ℕ → ℕ → List ℕ
end_line word n position = ended_text (ascii word) n position

-- the outcome: read with its end and count, or refused or stopped
unfoldable pub outcome_text : Outcome → ℕ → ℕ → List ℕ
outcome_text Read position fields = line (("read ", position) ∷ (" fields ", fields) ∷ [])
outcome_text (Refused n) position fields = end_line "refused " n position
outcome_text (Stopped n) position fields = end_line "stopped " n position

abbrev pub outcome_line : Answer → List ℕ
outcome_line a = outcome_text a.outcome a.position a.fields
