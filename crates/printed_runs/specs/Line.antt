-- Runs of the functions that put a line into lent bytes: of a field of recorded words, and of an outcome.
use Rattle.std.specs.Prelude.{ℕ, ◌<◌, ◌^◌, ◌≡◌, List, [], ◌∷◌, ◌++◌, length}
use Rattle.std.specs.Int.{w64}
use mir.Val.{Val, vint, WT}
use base.Logic.{SProp, sep}
use Rattle.std.specs.Borrow.{Share}
use prog.Memory.{Memory}
use prog.Routine.{Env, Routine}
use prog.Wired.{Code}
use borrow.Fn.World.{World}
use Rattle.rules.specs.declared.Answer.{Answer}
use Rattle.rules.proofs.Answer.TheLaws as answer-laws
use Rattle.text.specs.Text.{Lined}
use Rattle.field_lines.specs.FieldLine.{line_at}
use Rattle.outcome_lines.specs.OutcomeLine.{outcome_line}
use Rattle.field_lines.proofs.field_line.Symbol.{name as field_name, code as field_code}
use Rattle.outcome_lines.proofs.outcome_line.Symbol.{name as outcome_name, code as outcome_code}
use Rattle.owner.specs.Cells.{Cells, refilled, Slice, slice, pointer}
use Rattle.owner.specs.Machine.{Ran}
use Rattle.owner.specs.Holds.{◌⊨◌, Numbers}
use Rattle.runs.specs.Sent.{Text}

-- What a line is of: field `i` of words, of which a share is owned, by `field_lines::field_line`; and an answer, by
-- `outcome_lines::outcome_line`.
pub data Line : Type 0 where
  of_field : Share → Cells ℕ → ℕ → Line
  of_outcome : Answer → Line

-- as they are in the environment γ; and the code that γ has of each, with that of what it calls, where it is `Wired` for it
abbrev pub line_routine : Env → Line → Routine
line_routine γ (of_field q ws i) = γ field_name
line_routine γ (of_outcome a) = γ outcome_name

abbrev pub line_code : Line → Code
line_code (of_field q ws i) = field_code
line_code (of_outcome a) = outcome_code

abbrev pub LineFits : Line → Type 0
LineFits (of_field q ws i) = Slice 8 ws × (i < 2 ^ 64)
LineFits (of_outcome a) = WT (answer-laws.lowered a)

abbrev pub line_values : Line → List Val
line_values (of_field q ws i) = slice ws ∷ vint w64 i ∷ []
line_values (of_outcome a) = answer-laws.lowered a ∷ []

abbrev pub line_text : Line → List ℕ
line_text (of_field q ws i) = line_at ws.held i
line_text (of_outcome a) = outcome_line a

-- the words, and the bytes that are lent for the line, beside F
abbrev pub LineInCells : (w : World) → Line → Cells ℕ → SProp w.𝓤 → SProp w.𝓤
LineInCells w (of_field q ws i) line F = sep w.𝓤 (Numbers w w64 q ws) (sep w.𝓤 (Text w line) F)
LineInCells w (of_outcome a) line F = sep w.𝓤 (Text w line) F

-- From the memory σ, beside F: it ends with the number of bytes put, in a memory that holds the lent bytes as they were left,
-- no more and no fewer, and all else as it was.
pub record LinePut (w : World) (γ : Env) (x : Line) (line : Cells ℕ) (σ : Memory) (F : SProp w.𝓤) : Type 1 where
  pub put : ℕ
  pub bytes : List ℕ
  pub memory : Memory
  pub ran : Ran (line_routine γ x) (line_values x ++ pointer line ∷ []) σ (vint w64 put) memory
  pub bytes_many : length bytes ≡ 256
  pub holds : ◌⊨◌ w memory (LineInCells w x (refilled line bytes) F)
  pub lined : Lined line.held (line_text x) put bytes
