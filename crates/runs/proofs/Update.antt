-- Whoever owns the cells may call, and the call returns: the three functions that update shapes, from their own theorems.
use Prim.Native.Nat.{ℕ}
use mathlib.Core.Path.{◌≡◌, refl, sym, ◌∙◌, subst}
use mathlib.Core.List.{List, [], ◌∷◌, map}
use mathlib.Core.Bool.{Bool}
use mathlib.Core.Logic.{∥∥₁_prop, ∥∥₁_elim, ∥∥₁_map}
use lib.ListN.{length, take}
use mir.Syntax.{w64}
use mir.Val.{Val}
use base.Logic.{SProp, sep, snd∗, via}
use prog.Memory.{Memory}
use prog.Routine.{Env}
use prog.Wired.{Wired}
use contract.Adequate.{sat_weaken}
use denote.RattleType.{RattleType}
use denote.Array.{Array, each, array_vals, Array-Makes}
use denote.Shadow.{shadow}
use denote.Builtin as builtin
use denote.Plain.{uint_vals}
use denote.Laws.{Is, Typed, Makes}
use denote.Struct.Laws.{makes, lawful, owed}
use borrow.Fn.World.{World}
use Rattle.rules.specs.Reading.{Reading}
use Rattle.validation.specs.declared.GraphAnswer.{GraphAnswer}
use Rattle.validation.specs.Validation.{GraphAnswered}
use Rattle.validation.specs.contracts.GraphAnswer as answer-row
use Rattle.validation.proofs.GraphAnswer.TheLaws as answer-laws
use Rattle.position.specs.declared.PositionSyntax.{PositionSyntax}
use Rattle.position.specs.contracts.PositionSyntax as shape_row_lem
use Rattle.position.proofs.PositionSyntax.TheLaws as shape-laws
use Rattle.update.specs.declared.UpdateAnswer.{UpdateAnswer}
use Rattle.update.specs.Update.{update_reading, UpdateAnswered}
use Rattle.update.specs.contracts.UpdateAnswer as update-row
use Rattle.update.proofs.UpdateAnswer.TheLaws as update-laws
use Rattle.update.specs.contracts.graph_update as value-update
use Rattle.update.proofs.graph_update.Met.{met as value-met}
use Rattle.lent.specs.contracts.graph_update as lent_update
use Rattle.lent.proofs.graph_update.Met.{met as lent_met}
use Rattle.exported.specs.declared.GatewayGraphAnswer.{GatewayGraphAnswer}
use Rattle.exported.specs.Exported.{GraphExported}
use Rattle.exported.specs.contracts.GatewayGraphAnswer as exported-row
use Rattle.exported.proofs.GatewayGraphAnswer.TheLaws as exported-laws
use Rattle.gateway.specs.contracts.gateway_update as gateway-update
use Rattle.gateway.proofs.gateway_update.Met.{met as gateway-met}
use Rattle.owner.specs.Cells.{Cells, refilled, slice}
use Rattle.owner.specs.Machine.{Ran}
use Rattle.owner.specs.Holds.{◌⊨◌}
use Rattle.owner.proofs.Loans.{Kind, mutable, value, Lefts, AsMany}
use Rattle.owner.proofs.Owner.{T, Says}
use Rattle.owner.proofs.Returns.{reading}
use Rattle.runs.specs.Sent.{Variant, plain, exported, Sent, SentFits, passed, input_sent, AllFit, Bytes, Words, Shapes, SentInCells}
use Rattle.runs.specs.Update.{Form, by_value, lent, update_routine, update_code, update_value, Handed, HandedFits, all_of, HandedInCells, Updated}
use Rattle.runs.proofs.Sent.{sent_kinds, sent_given, words_left, rest_left, input_in, offset_in, recording_in, words_in, rest_in}
use Rattle.runs.proofs.Sent.{number_made, shape_is, shapes_placed, shapes_fit, array_fits, sent_runs}

-- ---- the parameters after the first: shapes and count, or the lent shapes
abbrev ShapeArray : RattleType
ShapeArray = Array shape_row_lem.the_row 63

abbrev counted : List (Kind 2)
counted = value ShapeArray (array_vals (λ s. shape-laws.lowered s ∷ [])) ∷ value builtin.usize (uint_vals w64) ∷ []

abbrev in_cells : List (Kind 3)
in_cells = mutable 2 tt shape_row_lem.the_row ∷ []

abbrev value_kinds : List (Kind 2)
value_kinds = sent_kinds 2 tt tt counted

abbrev lent_kinds : List (Kind 3)
lent_kinds = sent_kinds 3 tt tt in_cells

-- they are the functions' own, and so are the contracts
value_is : T 2 value_kinds update-row.the_row ≡ value-update.ended
value_is = refl

lent_is : T 3 lent_kinds answer-row.the_row ≡ lent_update.ended
lent_is = refl

exported_is : T 3 lent_kinds exported-row.the_row ≡ gateway-update.ended
exported_is = refl

abbrev value_says : Says 2 value_kinds update-row.the_row
value_says x r l =
    let shapes = (rest_in x).0 in
    let count = (rest_in x).1.0 in
    let reading = update_reading (input_in x) (offset_in x) count (take count shapes) in
    UpdateAnswered reading count shapes (recording_in x) (words_in x) r (words_left 2 tt tt counted l)

-- the lent one and the exported one promise something of the same reading
abbrev lent_says : (R : RattleType) →
    (Reading (List PositionSyntax) → List PositionSyntax → Bool → List ℕ → R.Denot → List PositionSyntax → List ℕ → Type 0) → Says 3 lent_kinds R
lent_says R Promised x r l =
    let shapes = (rest_in x).0 in
    let reading = update_reading (input_in x) (offset_in x) (length shapes) shapes in
    Promised reading shapes (recording_in x) (words_in x) r (rest_left 3 tt tt in_cells l).0 (words_left 3 tt tt in_cells l)

module _ (w : World) where
  -- ---- by value
  each_is : (ss : List PositionSyntax) → AllFit ss → shadow (each PositionSyntax (shape_row_lem.the_row).own_val ss (map shape-laws.lowered ss))
  each_is [] f = tt
  each_is (s ∷ ss) f = (shape_is w s f.0, each_is ss f.1)

  shapes_made : Makes w.𝓛 ShapeArray (Is ShapeArray)
  shapes_made =
      Array-Makes w.𝓛 shape_row_lem.the_row (makes shape_row_lem.the_type shape-laws.the_plain w.𝓛) 63

  -- what is returned is a value of its type: 63 shapes, each of them one of its own
  result_typed : (a : UpdateAnswer) (vs : List Val) → Is update-row.the_row a vs → Typed (update-row.the_row).mir vs
  result_typed = (lawful update-row.the_type update-laws.the_laws w.𝓛).typed

  result_fit : (a : UpdateAnswer) → Is update-row.the_row a (update-laws.lowered a ∷ []) → AllFit a.shapes
  result_fit a is = array_fits a.shapes (result_typed a (update-laws.lowered a ∷ []) is).0.1.1.0

  result_many : (a : UpdateAnswer) → Is update-row.the_row a (update-laws.lowered a ∷ []) → length a.shapes ≡ 63
  result_many a is =
      let array = (owed update-row.the_type update-laws.the_laws a (update-laws.lowered a ∷ []) is).1.0 in
      array.1.0.1

  -- ---- lent: what lies in a memory's cells is well typed
  left_fit : (p : Sent) (ws : List ℕ) (d : Cells PositionSyntax) (σ : Memory) (F : SProp w.𝓤) →
      ◌⊨◌ w σ (SentInCells w p ws (sep w.𝓤 (Shapes w d) F)) → ∥ AllFit d.held ∥₁
  left_fit p ws d σ F s =
      let shapes = sep w.𝓤 (Shapes w d) F in
      let both = sep w.𝓤 (Words w (refilled p.words ws)) shapes in
      shapes_fit w d σ F (sat_weaken w.𝓤 w.𝓛.H w.𝓜 σ
      (via w.𝓤 both (snd∗ w.𝓤 (Bytes w p.share p.bytes) both) (snd∗ w.𝓤 (Words w (refilled p.words ws)) shapes)) s)

  -- a run of either, by what was left of its parameters
  lent_updated : (γ : Env) (v : Variant) (p : Sent) (d : Cells PositionSyntax) (σ : Memory) (F : SProp w.𝓤) (answer : GraphAnswer) (left : Lefts lent_kinds) →
      AsMany lent_kinds (sent_given 3 tt tt in_cells p (d, tt)) left → (memory : Memory) →
      let words = words_left 3 tt tt in_cells left in
      let shapes = (rest_left 3 tt tt in_cells left).0 in
      Ran (update_routine γ (lent v)) (passed p (slice d ∷ [])) σ (update_value (lent v) answer shapes) memory →
      ◌⊨◌ w memory (SentInCells w p words (sep w.𝓤 (Shapes w (refilled d shapes)) F)) →
      GraphAnswered (update_reading (input_sent p) p.offset (length d.held) d.held) d.held p.recording p.words.held answer shapes words →
      ∥ Updated w γ (lent v) p d σ F ∥₁
  lent_updated γ v p d σ F answer left many memory ran holds answered =
      let words = words_left 3 tt tt in_cells left in
      let shapes = (rest_left 3 tt tt in_cells left).0 in
      ∥∥₁_map (left_fit p words (refilled d shapes) memory F holds) (λ fit. record {
        answer = answer;
        words = words;
        shapes = shapes;
        memory = memory;
        ran = ran;
        words_many = many.1.1.1.0;
        shapes_many = many.1.1.1.1.0;
        shapes_fit = fit;
        holds = holds;
        answered = answered;
        others_kept = tt;
      })

  pub updates : (γ : Env) (f : Form) → Wired γ (update_code f) → (p : Sent) → SentFits p → (h : Handed f) → HandedFits f h → (σ : Memory) (F : SProp w.𝓤) →
      ◌⊨◌ w σ (SentInCells w p p.words.held (HandedInCells w f h (all_of f h) F)) → ∥ Updated w γ f p h σ F ∥₁
  updates γ by_value has p ok h fits σ F holds =
      let array : Is ShapeArray h.shapes (array_vals (λ s. shape-laws.lowered s ∷ []) h.shapes) =
      (map shape-laws.lowered h.shapes, ((refl, fits.all), each_is h.shapes fits.fit)) in
      ∥∥₁_map (sent_runs w 2 tt tt counted (tt, (tt, tt)) update-row.the_row update-laws.lowered (update_routine γ by_value) value_says
      (update-laws.lowers).val_is (value-met w.𝓤 w.𝓛 w.𝓜 (reading w γ) has) (shapes_made, (number_made w, tt)) p ok
      (h.shapes, (h.count, tt)) (array, ((refl, fits.count), tt)) σ F holds) (λ t. record {
        answer = t.result.graph;
        words = words_left 2 tt tt counted t.left;
        shapes = t.result.shapes;
        memory = t.memory;
        ran = t.ran;
        words_many = t.as_many.1.1.1.0;
        shapes_many = result_many t.result t.stands_for ∙ sym fits.all;
        shapes_fit = result_fit t.result t.stands_for;
        holds = t.holds;
        answered = t.ensured.answered;
        others_kept = t.ensured.others;
      })
  updates γ (lent plain) has p ok d fits σ F holds =
      ∥∥₁_elim (sent_runs w 3 tt tt in_cells (shapes_placed w, tt) answer-row.the_row answer-laws.lowered (update_routine γ (lent plain))
      (lent_says answer-row.the_row GraphAnswered) (answer-laws.lowers).val_is (lent_met w.𝓤 w.𝓛 w.𝓜 (reading w γ) has) (tt, tt) p ok
      (d, tt) (fits, tt) σ F holds) ∥∥₁_prop (λ t.
      lent_updated γ plain p d σ F t.result t.left t.as_many t.memory t.ran t.holds t.ensured)
  updates γ (lent exported) has p ok d fits σ F holds =
      ∥∥₁_elim (sent_runs w 3 tt tt in_cells (shapes_placed w, tt) exported-row.the_row exported-laws.lowered (update_routine γ (lent exported))
      (lent_says exported-row.the_row GraphExported) (exported-laws.lowers).val_is (gateway-met w.𝓤 w.𝓛 w.𝓜 (reading w γ) has) (tt, tt) p ok
      (d, tt) (fits, tt) σ F holds) ∥∥₁_prop (λ t.
      let Returns : GatewayGraphAnswer → Type 0 = λ r. Ran (update_routine γ (lent exported)) (passed p (slice d ∷ [])) σ (exported-laws.lowered r) t.memory in
      let ran = subst Returns t.ensured.same t.ran in
      lent_updated γ exported p d σ F t.ensured.graph t.left t.as_many t.memory ran t.holds t.ensured.answered)
