-- The questions in their order: what each way out of the code says of them, and what is known where all are met.
use Prim.Native.Nat.{ℕ, ◌<◌, ◌≤◌}
use mathlib.Core.Path.{◌≡◌, refl, sym, ap, ap₂, ◌∙◌}
use mathlib.Core.List.{List, [], ◌∷◌, ◌++◌}
use mathlib.Core.Bool.{Bool, true, false}
use mathlib.Core.Logic.{◌≢◌}
use native.Mathlib.Omega.{arith}
use borrow.Author.Tests.{eqb-true, eqb-false, leb-true, eq-eqb, ne_eqb, le-leb, lt-leb}
use lib.Dec.{eqb, leb}
use lib.ListN.{length}
use Rattle.rules.specs.declared.reason.Reason.{Reason}
use Rattle.rules.specs.Rule.{pick}
use Rattle.rules.specs.Reason.{number_of}
use Rattle.rules.specs.Questions.{asks, first_unmet}
use Rattle.rules.proofs.Questions.{ask_met, met_of, after_met, at_unmet, last_unmet, first_met, after_all, some_number}
use Rattle.rules.proofs.Numbered.{numbered}
use Rattle.position.specs.declared.PositionSyntax.{PositionSyntax}
use Rattle.ranks.specs.Rank.{verdict}
use Rattle.update.specs.Update.{shapes_question}
use Rattle.bit_writer.specs.Bits.{bytes_for}
use Rattle.parent_packet.specs.Packet.{packet}
use Rattle.parent_packet.specs.Shortest.{all_dynamic}
use Rattle.parent_packet.proofs.Shortest.{parent_few, shapes_few}
use Rattle.parent_writer.specs.ParentWriter.{MayWrite, asked_first, parents_question}

module _ (shapes : List PositionSyntax) (parents : List ℕ) where
  abbrev first : ℕ
  first = first_unmet (asked_first shapes parents)

  pub lists_differ : length shapes ≢ length parents → 36 ≡ first
  unfolding first_unmet
  lists_differ n = rw (ne_eqb _ _ n) refl

  module _ (same : length shapes ≡ length parents) where
    first_same : first ≡
        first_unmet (shapes_question (length shapes) shapes ∷ asks 37 (all_dynamic shapes parents) ∷ verdict parents ∷ [])
    first_same = after_met _ _ (ask_met 36 (eq-eqb _ _ same))

    pub bad_shapes : (e : Reason) → number_of e ≡ shapes_question (length shapes) shapes → number_of e ≡ first
    bad_shapes e q = q ∙ sym (first_same ∙ at_unmet _ _ (λ h. some_number e (q ∙ h)))

    module _ (shaped : ◌≡◌ {A = ℕ} 0 (shapes_question (length shapes) shapes)) where
      first_shaped : first ≡ first_unmet (asks 37 (all_dynamic shapes parents) ∷ verdict parents ∷ [])
      first_shaped = first_same ∙ after_met _ _ (sym shaped)

      pub not_dynamic : false ≡ all_dynamic shapes parents → 37 ≡ first
      not_dynamic d =
          let unmet = at_unmet 37 (verdict parents ∷ []) (λ h. omega arith) in
          sym (first_shaped ∙ ap (λ (b : Bool). first_unmet (asks 37 b ∷ verdict parents ∷ [])) (sym d) ∙ unmet)

      pub by_verdict : true ≡ all_dynamic shapes parents → {n : ℕ} → n ≡ verdict parents → n ≡ first
      by_verdict d v = v ∙ sym (first_shaped ∙ after_met _ _ (ask_met 37 (sym d)) ∙ last_unmet (verdict parents))

  -- what is known where these are met
  pub record AllMet : Type 0 where
    pub same : length shapes ≡ length parents
    pub shaped : ◌≡◌ {A = ℕ} (shapes_question (length shapes) shapes) 0
    pub dynamic : all_dynamic shapes parents ≡ true
    pub valid : verdict parents ≡ 0

  pub all_met : 0 ≡ first → AllMet
  all_met h =
      let a = first_met _ _ (sym h) in
      let b = first_met _ _ a.1 in
      let c = first_met _ _ b.1 in
      record {
        same = eqb-true _ _ (met_of 36 (omega arith) _ a.0);
        shaped = b.0;
        dynamic = met_of 37 (omega arith) _ c.0;
        valid = sym (last_unmet (verdict parents)) ∙ c.1;
      }

  pub may_write : AllMet → MayWrite shapes parents
  may_write m =
      let few = shapes_few shapes m.shaped in
      record {
        same = m.same;
        few = omega (arith, m.same);
        small = λ i h. omega (arith, m.same, parent_few parents m.valid i h);
      }

  -- the last question
  module _ (room : ℕ) where
    abbrev bytes : ℕ
    bytes = bytes_for (length (packet shapes parents))

    abbrev both : ℕ → Bool → ℕ
    both n enough = pick (eqb n 0) (asks 38 enough) n

    question : parents_question shapes parents room ≡ both first (leb bytes room)
    question =
        let last = last_unmet (asks 38 (leb bytes room)) in
        after_all (asked_first shapes parents) (asks 38 (leb bytes room) ∷ []) ∙ ap (λ (n : ℕ). pick (eqb first 0) n first) last

    by_both : {n : ℕ} {b : Bool} → first ≡ n → leb bytes room ≡ b → ◌≡◌ {A = ℕ} (both first (leb bytes room)) (both n b)
    by_both e f = ap₂ both e f

    pub unmet_before : (e : Reason) → number_of e ≡ first → number_of e ≡ parents_question shapes parents room
    unmet_before e h =
        let some : eqb first 0 ≡ false = ne_eqb first 0 (λ q. some_number e (h ∙ q)) in
        h ∙ sym (question ∙ ap (λ (b : Bool). pick b (asks 38 (leb bytes room)) first) some)

    pub too_long : 0 ≡ first → room < bytes → 38 ≡ parents_question shapes parents room
    too_long h l = sym (question ∙ by_both (sym h) (lt-leb bytes room l))

    pub fits : 0 ≡ first → bytes ≤ room → 0 ≡ parents_question shapes parents room
    fits h l = sym (question ∙ by_both (sym h) (le-leb bytes room l))

    pub question_met : 0 ≡ parents_question shapes parents room → (0 ≡ first) × (bytes ≤ room)
    question_met h = go (eqb first 0) refl (h ∙ question)
      where
        go : (b : Bool) → eqb first 0 ≡ b → ◌≡◌ {A = ℕ} 0 (pick b (asks 38 (leb bytes room)) first) →
            (0 ≡ first) × (bytes ≤ room)
        go true e q = (sym (eqb-true first 0 e), leb-true bytes room (met_of 38 (omega arith) _ (sym q)))
        go false e q = absurd (eqb-false first 0 e (sym q))
