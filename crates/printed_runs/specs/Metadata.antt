-- A run of `metadata::read_metadata`, as it is in the environment γ.
use Rattle.std.specs.Prelude.{ℕ, ◌≡◌, List, [], length}
use mir.Val.{WT}
use base.Logic.{SProp}
use prog.Memory.{Memory}
use prog.Routine.{Env}
use borrow.Fn.World.{World}
use Rattle.rules.specs.declared.Answer.{Answer}
use Rattle.rules.specs.Answer.{Answered}
use Rattle.rules.proofs.Answer.TheLaws as answer-laws
use Rattle.metadata.specs.Entry.{metadata_reading}
use Rattle.metadata.proofs.read_metadata.Symbol.{name}
use Rattle.owner.specs.Machine.{Ran}
use Rattle.owner.specs.Holds.{◌⊨◌}
use Rattle.runs.specs.Sent.{Sent, passed, input_sent, SentInCells}

-- From the memory σ, beside F: it ends with the machine's value of an answer, which is one of its type, in a memory that holds
-- the bytes as they were, the words as they were left, no more and no fewer, and F as it was.
pub record MetadataRead (w : World) (γ : Env) (p : Sent) (σ : Memory) (F : SProp w.𝓤) : Type 1 where
  pub answer : Answer
  pub words : List ℕ
  pub memory : Memory
  pub ran : Ran (γ name) (passed p []) σ (answer-laws.lowered answer) memory
  pub answer_fits : WT (answer-laws.lowered answer)
  pub words_many : length words ≡ length p.words.held
  pub holds : ◌⊨◌ w memory (SentInCells w p words F)
  pub answered : Answered (metadata_reading (input_sent p) p.offset) tt p.recording p.words.held answer tt words
