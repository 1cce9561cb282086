-- Runs of the functions over a show file: `show::show`, which puts its text into lent bytes, and `part_fields::read_part`, as they are
-- in the environment γ.
use Rattle.std.specs.Prelude.{ℕ, ◌<◌, ◌^◌, ◌≡◌, List, [], ◌∷◌, Result, length}
use Rattle.std.specs.Int.{w64}
use mir.Val.{Val, vint, WT}
use base.Logic.{SProp, sep}
use Rattle.std.specs.Borrow.{Share}
use prog.Memory.{Memory}
use prog.Routine.{Env}
use borrow.Fn.World.{World}
use denote.Param.Laws.{struct_told, enum_told}
use Rattle.std.proofs.result.Result.TheLaws as result
use Rattle.rules.specs.declared.Answer.{Answer}
use Rattle.rules.specs.contracts.Answer as answer-row
use Rattle.rules.proofs.Answer.TheLaws as answer
use Rattle.text.specs.declared.TextAnswer.{TextAnswer}
use Rattle.text.proofs.TextAnswer.TheLaws as text-answer
use Rattle.show.specs.Show.{ShowAnswered}
use Rattle.show.proofs.show.Symbol.{name as show_name}
use Rattle.part_fields.specs.declared.NotRead.{NotRead}
use Rattle.part_fields.specs.contracts.NotRead as not-read-row
use Rattle.part_fields.proofs.NotRead.TheLaws as not-read
use Rattle.part_fields.specs.Part.{part_from, part_listed, PartAnswered}
use Rattle.part_fields.proofs.read_part.Symbol.{name as part_name}
use Rattle.owner.specs.Cells.{Cells, refilled, Slice, slice, pointer}
use Rattle.owner.specs.Machine.{Ran}
use Rattle.owner.specs.Holds.{◌⊨◌}
use Rattle.runs.specs.Sent.{Bytes, Words, Text}

-- a share of a file's bytes, and the bytes that are lent for its text
pub record Showing : Type 0 where
  pub share : Share
  pub file : Cells ℕ
  pub text : Cells ℕ

pub record ShowingFits (p : Showing) : Type 0 where
  pub file : Slice 1 p.file
  pub text : length p.text.held ≡ 32768

-- both, with these bytes for the text, beside F
abbrev pub ShowInCells : (w : World) → Showing → List ℕ → SProp w.𝓤 → SProp w.𝓤
ShowInCells w p text F = sep w.𝓤 (Bytes w p.share p.file) (sep w.𝓤 (Text w (refilled p.text text)) F)

-- From the memory σ, beside F: it ends with the machine's value of an answer in a memory that holds the file as it was, the
-- lent bytes as they were left, no more and no fewer, and F as it was.
pub record Shown (w : World) (γ : Env) (p : Showing) (σ : Memory) (F : SProp w.𝓤) : Type 1 where
  pub answer : TextAnswer
  pub text : List ℕ
  pub memory : Memory
  pub ran : Ran (γ show_name) (slice p.file ∷ pointer p.text ∷ []) σ (text-answer.lowered answer) memory
  pub text_many : length text ≡ 32768
  pub holds : ◌⊨◌ w memory (ShowInCells w p text F)
  pub answered : ShowAnswered p.file.held p.text.held answer text

-- a share of a file's bytes, the part that is asked for and the bit of it to begin at, and words for its fields
pub record Asked : Type 0 where
  pub share : Share
  pub file : Cells ℕ
  pub part : ℕ
  pub offset : ℕ
  pub words : Cells ℕ

pub record AskedFits (p : Asked) : Type 0 where
  pub file : Slice 1 p.file
  pub part : p.part < 2 ^ 64
  pub offset : p.offset < 2 ^ 64
  pub words : Slice 8 p.words

abbrev pub asked_values : Asked → List Val
asked_values p = slice p.file ∷ vint w64 p.part ∷ vint w64 p.offset ∷ slice p.words ∷ []

abbrev pub AskedInCells : (w : World) → Asked → List ℕ → SProp w.𝓤 → SProp w.𝓤
AskedInCells w p ws F = sep w.𝓤 (Bytes w p.share p.file) (sep w.𝓤 (Words w (refilled p.words ws)) F)

-- the machine's value of what is answered
abbrev pub part_value : Result Answer NotRead → Val
part_value =
    result.lowered answer-row.the_row not-read-row.the_row answer.the_row_laws not-read.the_row_laws
    (struct_told answer-row.the_type answer.the_laws) (enum_told not-read-row.the_type not-read.the_laws)

pub record PartRead (w : World) (γ : Env) (p : Asked) (σ : Memory) (F : SProp w.𝓤) : Type 1 where
  pub answer : Result Answer NotRead
  pub words : List ℕ
  pub memory : Memory
  pub ran : Ran (γ part_name) (asked_values p) σ (part_value answer) memory
  pub answer_fits : WT (part_value answer)
  pub words_many : length words ≡ length p.words.held
  pub holds : ◌⊨◌ w memory (AskedInCells w p words F)
  pub answered : PartAnswered (part_listed p.file.held p.part (part_from p.file.held p.part p.offset p.words.held))
      p.words.held answer words
