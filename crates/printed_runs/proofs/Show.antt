-- Whoever owns the cells may call, and the call returns: `show::show` and `part_fields::read_part`, from their own theorems.
use mathlib.Core.Path.{◌≡◌, refl}
use mathlib.Core.List.{List, [], ◌∷◌}
use mathlib.Core.Logic.{∥∥₁_map}
use mathlib.Core.Option.{none}
use mir.Syntax.{w8, w64}
use mir.Val.{Val}
use base.Logic.{SProp}
use prog.Memory.{Memory}
use prog.Routine.{Env}
use prog.Wired.{Wired}
use denote.Builtin as builtin
use denote.Plain.{uint_vals}
use denote.Laws.{Is, Typed}
use denote.Lowered.{Lowered}
use denote.Param.Laws.{struct_told, enum_told}
use denote.RattleType.{RattleType}
use borrow.Fn.World.{World}
use Rattle.std.specs.Prelude.{Result}
use Rattle.std.specs.contracts.result.Result as result-row
use Rattle.std.proofs.result.Result.TheLaws as result
use Rattle.rules.specs.declared.Answer.{Answer}
use Rattle.rules.specs.contracts.Answer as answer-row
use Rattle.rules.proofs.Answer.TheLaws as answer
use Rattle.text.specs.contracts.TextAnswer as text-row
use Rattle.text.proofs.TextAnswer.TheLaws as text-laws
use Rattle.show.specs.Show.{ShowAnswered}
use Rattle.show.specs.contracts.show as show
use Rattle.show.proofs.show.Symbol.{name as show_name, code as show_code}
use Rattle.show.proofs.show.Met.{met as show-met}
use Rattle.part_fields.specs.declared.NotRead.{NotRead}
use Rattle.part_fields.specs.contracts.NotRead as not-read-row
use Rattle.part_fields.proofs.NotRead.TheLaws as not-read
use Rattle.part_fields.specs.Part.{part_from, part_listed, PartAnswered}
use Rattle.part_fields.specs.contracts.read_part as read-part
use Rattle.part_fields.proofs.read_part.Symbol.{name as part_name, code as part_code}
use Rattle.part_fields.proofs.read_part.Met.{met as part-met}
use Rattle.owner.specs.Holds.{◌⊨◌}
use Rattle.owner.proofs.Loans.{Kind, shared, mutable, reference, value}
use Rattle.owner.proofs.Owner.{T, Says}
use Rattle.owner.proofs.Returns.{reading}
use Rattle.owner.proofs.Placed.{number_lent}
use Rattle.owner.proofs.Around.{runs}
use Rattle.printed_runs.specs.Show.{Showing, ShowingFits, ShowInCells, Shown, Asked, AskedFits, AskedInCells, part_value, PartRead}
use Rattle.runs.proofs.Sent.{number_made, bytes_placed, words_placed}

-- ---- file and text
abbrev show_kinds : List (Kind 2)
show_kinds = shared 0 tt builtin.u8 ∷ reference 1 tt builtin.u8 tt 32768 ∷ []

-- the parameters and the contract are the function's own
show_is : T 2 show_kinds text-row.the_row ≡ show.ended
show_is = refl

abbrev show_says : Says 2 show_kinds text-row.the_row
show_says x r l = ShowAnswered x.0 x.1.0 r l.1.0

-- ---- file, part, offset and words
abbrev part_kinds : List (Kind 2)
part_kinds = shared 0 tt builtin.u8 ∷ value builtin.usize (uint_vals w64) ∷ value builtin.usize (uint_vals w64) ∷ mutable 1 tt builtin.u64 ∷ []

-- what is answered
abbrev part_row : RattleType
part_row = result-row.the_row answer-row.the_row not-read-row.the_row

abbrev part_lowers : Lowered part_row
part_lowers =
    result.lowers answer-row.the_row not-read-row.the_row answer.the_row_laws not-read.the_row_laws
    (struct_told answer-row.the_type answer.the_laws) (enum_told not-read-row.the_type not-read.the_laws)

part_is : T 2 part_kinds part_row ≡ read-part.ended
part_is = refl

abbrev part_says : Says 2 part_kinds part_row
part_says x r l =
    let file = x.0 in
    let part = x.1.0 in
    let offset = x.1.1.0 in
    let words = x.1.1.1.0 in
    PartAnswered (part_listed file part (part_from file part offset words)) words r l.1.1.1.0

module _ (w : World) where
  pub shows : (γ : Env) → Wired γ show_code → (p : Showing) → ShowingFits p → (σ : Memory) (F : SProp w.𝓤) → ◌⊨◌ w σ (ShowInCells w p p.text.held F) → ∥ Shown w γ p σ F ∥₁
  shows γ has p ok σ F holds =
      ∥∥₁_map (runs 2 show_kinds text-row.the_row text-laws.lowered w (bytes_placed w, (bytes_placed w, tt)) (γ show_name) show_says
      (text-laws.lowers).val_is none (show-met w.𝓤 w.𝓛 w.𝓜 (reading w γ) has) (number_lent w.𝓛 w8, (tt, tt)) ((p.share, p.file), (p.text, tt)) tt
      (ok.file, (ok.text, tt)) σ F holds) (λ t. record {
        answer = t.result;
        text = t.left.1.0;
        memory = t.memory;
        ran = t.ran;
        text_many = t.as_many.1.0;
        holds = t.holds;
        answered = t.ensured;
      })

  part_typed : (a : Result Answer NotRead) (vs : List Val) → Is part_row a vs → Typed part_row.mir vs
  part_typed = ((result.the_row_laws answer-row.the_row not-read-row.the_row answer.the_row_laws not-read.the_row_laws).lawful w.𝓛).typed

  pub parts_read : (γ : Env) → Wired γ part_code → (p : Asked) → AskedFits p → (σ : Memory) (F : SProp w.𝓤) → ◌⊨◌ w σ (AskedInCells w p p.words.held F) → ∥ PartRead w γ p σ F ∥₁
  parts_read γ has p ok σ F holds =
      ∥∥₁_map (runs 2 part_kinds part_row part_value w (bytes_placed w, (tt, (tt, (words_placed w, tt)))) (γ part_name) part_says
      part_lowers.val_is none (part-met w.𝓤 w.𝓛 w.𝓜 (reading w γ) has) (number_lent w.𝓛 w8, (number_made w, (number_made w, (tt, tt))))
      ((p.share, p.file), (p.part, (p.offset, (p.words, tt)))) tt
      (ok.file, ((refl, ok.part), ((refl, ok.offset), (ok.words, tt)))) σ F holds)
      (λ t. record {
        answer = t.result;
        words = t.left.1.1.1.0;
        memory = t.memory;
        ran = t.ran;
        answer_fits = (part_typed t.result (part_value t.result ∷ []) t.stands_for).0.1;
        words_many = t.as_many.1.1.1.0;
        holds = t.holds;
        answered = t.ensured;
      })
