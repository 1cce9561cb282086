-- Whoever owns the cells may call, and the call returns: `metadata::read_metadata`, from its own theorem.
use mathlib.Core.Path.{◌≡◌, refl}
use mathlib.Core.List.{List, []}
use mathlib.Core.Logic.{∥∥₁_map}
use base.Logic.{SProp}
use prog.Memory.{Memory}
use prog.Routine.{Env}
use prog.Wired.{Wired}
use borrow.Fn.World.{World}
use Rattle.rules.specs.Answer.{Answered}
use Rattle.rules.specs.contracts.Answer as answer-row
use Rattle.rules.proofs.Answer.TheLaws as answer-laws
use Rattle.metadata.specs.Entry.{metadata_reading}
use Rattle.metadata.specs.contracts.read_metadata as read
use Rattle.metadata.proofs.read_metadata.Symbol.{name, code}
use Rattle.metadata.proofs.read_metadata.Met.{met}
use Rattle.owner.specs.Holds.{◌⊨◌}
use Rattle.owner.proofs.Loans.{Kind}
use Rattle.owner.proofs.Owner.{T, Says}
use Rattle.owner.proofs.Returns.{reading}
use Rattle.runs.specs.Sent.{Sent, SentFits, SentInCells}
use Rattle.printed_runs.specs.Metadata.{MetadataRead}
use Rattle.runs.proofs.Sent.{sent_kinds, words_left, input_in, offset_in, recording_in, words_in, sent_runs}
use Rattle.runs.proofs.Answer.{answer_fits}

abbrev kinds : List (Kind 2)
kinds = sent_kinds 2 tt tt []

-- the parameters and the contract are the function's own
read_is : T 2 kinds answer-row.the_row ≡ read.ended
read_is = refl

abbrev says : Says 2 kinds answer-row.the_row
says x r l = Answered (metadata_reading (input_in x) (offset_in x)) tt (recording_in x) (words_in x) r tt (words_left 2 tt tt [] l)

pub metadata_reads : (w : World) (γ : Env) → Wired γ code → (p : Sent) → SentFits p → (σ : Memory) (F : SProp w.𝓤) → ◌⊨◌ w σ (SentInCells w p p.words.held F) →
    ∥ MetadataRead w γ p σ F ∥₁
metadata_reads w γ has p ok σ F holds =
    ∥∥₁_map (sent_runs w 2 tt tt [] tt answer-row.the_row answer-laws.lowered (γ name) says (answer-laws.lowers).val_is
    (met w.𝓤 w.𝓛 w.𝓜 (reading w γ) has) tt p ok tt tt σ F holds) (λ t. record {
      answer = t.result;
      words = words_left 2 tt tt [] t.left;
      memory = t.memory;
      ran = t.ran;
      answer_fits = answer_fits w t.result t.stands_for;
      words_many = t.as_many.1.1.1.0;
      holds = t.holds;
      answered = t.ensured;
    })
