-- Whoever owns the cells may call, and the call returns: `field_lines::field_line` and `outcome_lines::outcome_line`, from their
-- own theorems.
use Prim.Native.Nat.{ℕ}
use mathlib.Core.Path.{◌≡◌, refl}
use mathlib.Core.List.{List, [], ◌∷◌}
use mathlib.Core.Logic.{∥∥₁_map}
use mathlib.Core.Option.{none}
use lib.ListN.{length}
use mir.Syntax.{w64}
use mir.Val.{vint}
use base.Logic.{SProp}
use prog.Memory.{Memory}
use prog.Routine.{Env}
use prog.Wired.{Wired}
use denote.Builtin as builtin
use denote.Plain.{uint_vals, uint_Tells}
use denote.Laws.{Is, Makes}
use denote.Struct.Laws.{makes}
use borrow.Fn.World.{World}
use Rattle.rules.specs.contracts.Answer as answer-row
use Rattle.rules.proofs.Answer.TheLaws as answer-laws
use Rattle.text.specs.Text.{Lined}
use Rattle.field_lines.specs.FieldLine.{line_at}
use Rattle.outcome_lines.specs.OutcomeLine.{outcome_line}
use Rattle.field_lines.specs.contracts.field_line as field
use Rattle.field_lines.proofs.field_line.Met.{met as field-met}
use Rattle.outcome_lines.specs.contracts.outcome_line as outcome
use Rattle.outcome_lines.proofs.outcome_line.Met.{met as outcome-met}
use Rattle.owner.specs.Cells.{Cells}
use Rattle.owner.specs.Holds.{◌⊨◌}
use Rattle.owner.proofs.Loans.{Kind, shared, reference, value}
use Rattle.owner.proofs.Owner.{T, Says}
use Rattle.owner.proofs.Returns.{reading}
use Rattle.owner.proofs.Placed.{number_lent}
use Rattle.owner.proofs.Around.{runs}
use Rattle.printed_runs.specs.Line.{Line, of_field, of_outcome, line_routine, line_code, LineFits, LineInCells, LinePut}
use Rattle.runs.proofs.Sent.{number_made, bytes_placed, words_placed}
use Rattle.runs.proofs.Answer.{answer_is}

-- ---- words, the field's number, and the line
abbrev field_kinds : List (Kind 2)
field_kinds = shared 0 tt builtin.u64 ∷ value builtin.usize (uint_vals w64) ∷ reference 1 tt builtin.u8 tt 256 ∷ []

-- the parameters and the contract are the function's own
field_is : T 2 field_kinds builtin.usize ≡ field.ended
field_is = refl

abbrev field_says : Says 2 field_kinds builtin.usize
field_says x r l = Lined x.1.1.0 (line_at x.0 x.1.0) r l.1.1.0

-- ---- an answer, and the line
abbrev outcome_kinds : List (Kind 1)
outcome_kinds = value answer-row.the_row (λ a. answer-laws.lowered a ∷ []) ∷ reference 0 tt builtin.u8 tt 256 ∷ []

outcome_is : T 1 outcome_kinds builtin.usize ≡ outcome.ended
outcome_is = refl

abbrev outcome_says : Says 1 outcome_kinds builtin.usize
outcome_says x r l = Lined x.1.0 (outcome_line x.0) r l.1.0

pub lines_put : (w : World) (γ : Env) (x : Line) → Wired γ (line_code x) → LineFits x → (line : Cells ℕ) → length line.held ≡ 256 → (σ : Memory) (F : SProp w.𝓤) →
    ◌⊨◌ w σ (LineInCells w x line F) → ∥ LinePut w γ x line σ F ∥₁
lines_put w γ (of_field q ws i) has ok line many σ F holds =
    ∥∥₁_map (runs 2 field_kinds builtin.usize (vint w64) w (words_placed w, (tt, (bytes_placed w, tt))) (line_routine γ (of_field q ws i)) field_says
    (uint_Tells w64) none (field-met w.𝓤 w.𝓛 w.𝓜 (reading w γ) has) (number_lent w.𝓛 w64, (number_made w, (tt, tt))) ((q, ws), (i, (line, tt))) tt
    (ok.0, ((refl, ok.1), (many, tt))) σ F holds) (λ t. record {
      put = t.result;
      bytes = t.left.1.1.0;
      memory = t.memory;
      ran = t.ran;
      bytes_many = t.as_many.1.1.0;
      holds = t.holds;
      lined = t.ensured;
    })
lines_put w γ (of_outcome a) has ok line many σ F holds =
    let made : Makes w.𝓛 answer-row.the_row (Is answer-row.the_row) =
    makes answer-row.the_type answer-laws.the_plain w.𝓛 in
    ∥∥₁_map (runs 1 outcome_kinds builtin.usize (vint w64) w (tt, (bytes_placed w, tt)) (line_routine γ (of_outcome a)) outcome_says
    (uint_Tells w64) none (outcome-met w.𝓤 w.𝓛 w.𝓜 (reading w γ) has) (made, (tt, tt)) (a, (line, tt)) tt
    (answer_is a ok, (many, tt)) σ F holds) (λ t. record {
      put = t.result;
      bytes = t.left.1.0;
      memory = t.memory;
      ran = t.ran;
      bytes_many = t.as_many.1.0;
      holds = t.holds;
      lined = t.ensured;
    })
