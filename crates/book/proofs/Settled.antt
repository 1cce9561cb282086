-- Question 39, which the show asks after a call: the laws of a step in a setting, from those of the step.
use Prim.Native.Nat.{ℕ}
use mathlib.Core.Path.{◌≡◌, refl, sym, ◌∙◌, ap, ap₂}
use mathlib.Core.Bool.{Bool, true, false, not}
use mathlib.Core.Logic.{◌↔◌, ⊎_elim}
use mathlib.Core.List.{List, []}
use native.Mathlib.Omega.{arith}
use Rattle.rules.specs.declared.Field.{Field}
use Rattle.rules.specs.declared.Outcome.{Outcome}
use Rattle.rules.specs.declared.Outcome.TheVariants.{Read, Refused, Stopped}
use Rattle.rules.specs.Rule.{pick}
use Rattle.rules.specs.Words.{encoded}
use Rattle.rules.specs.Reading.{Reading, is_read}
use Rattle.rules.specs.Answer.{answer_of, value_or}
use Rattle.rules.proofs.Pick.{by_pick}
use Rattle.rules.proofs.Laws.{never, both}
use Rattle.position.specs.declared.PositionSyntax.{PositionSyntax}
use Rattle.validation.specs.declared.GraphAnswer.{GraphAnswer}
use Rattle.validation.specs.Validation.{RefusedForParents, graph_answer, TellsLargest}
use Rattle.book.specs.Step.{After, Step, Leaves, Keeps}
use Rattle.book.specs.Spare.{spare, too_much_follows, part_reading, refused_at_end, part_graph}
use Rattle.book.specs.Book.{Packet, Given, is_accepted, step_of, Setting, library, show, settled, step_in, Meets}

-- its fields are those of the reading
pub part_fields : {A : Type 0} (bs : List ℕ) (x : Reading A) → (part_reading bs x).fields ≡ x.fields
unfolding part_reading
part_fields bs x = by_pick (λ y. y.fields ≡ x.fields) (too_much_follows bs (answer_of x)) _ x (λ _. refl) (λ _. refl)

-- what is told of a part's reading is what the show makes of what is told of the reading, and so are the shapes that it leaves
module _ (bs : List ℕ) (x : Reading (List PositionSyntax)) where
  pub part_told : graph_answer (part_reading bs x) ≡ part_graph bs (graph_answer x)
  unfolding part_reading part_graph
  part_told = go (too_much_follows bs (answer_of x)) refl
    where
      go : (b : Bool) → too_much_follows bs (answer_of x) ≡ b → graph_answer (part_reading bs x) ≡ part_graph bs (graph_answer x)
      go true e = rw e
      go false e = rw e

  pub part_left : (s : List PositionSyntax) → value_or s (part_reading bs x).result ≡ pick (too_much_follows bs (answer_of x)) s (value_or s x.result)
  unfolding part_reading
  part_left s = go (too_much_follows bs (answer_of x)) refl
    where
      go : (b : Bool) → too_much_follows bs (answer_of x) ≡ b → value_or s (part_reading bs x).result ≡ pick (too_much_follows bs (answer_of x)) s (value_or s x.result)
      go true e = rw e
      go false e = rw e

  pub settled_reads : (p : Packet) → bs ≡ p.bytes → (s : List PositionSyntax) →
      settled show p s (step_of p.recording x s) ≡ step_of p.recording (part_reading bs x) s
  unfolding settled
  settled_reads p e s =
      let after : GraphAnswer → List Field → List PositionSyntax → After (List PositionSyntax) Given = λ g fs t.
      record { told = record { graph = g; words = pick p.recording (encoded fs) [] }; left = t } in
      rw (← e)
      (ap₂ (λ (g : GraphAnswer) (t : List PositionSyntax). after g x.fields t) (sym part_told) (sym (part_left s))
      ∙ ap (λ (fs : List Field). after (graph_answer (part_reading bs x)) fs (value_or s (part_reading bs x).result)) (sym (part_fields bs x)))

-- a call in a setting: as it went, or refused by 39 with the shapes from before
module _ (p : Packet) (s : List PositionSyntax) (a : After (List PositionSyntax) Given) where
  abbrev follow : Bool
  follow = too_much_follows p.bytes a.told.graph.answer

  abbrev refused : After (List PositionSyntax) Given
  refused = record { told = record { graph = refused_at_end a.told.graph; words = a.told.words }; left = s }

  module _ {ℓ} (P : After (List PositionSyntax) Given → Type ℓ) where
    by_question : (follow ≡ false → P a) → (follow ≡ true → P refused) → P (settled show p s a)
    unfolding settled part_graph
    by_question k h = go follow refl
      where
        go : (b : Bool) → follow ≡ b → P (settled show p s a)
        go true e = rw e (h e)
        go false e = rw e (k e)

    pub by_setting : (x : Setting) → P a → (follow ≡ true → P refused) → P (settled x p s a)
    unfolding settled
    by_setting library k h = k
    by_setting show k h = by_question (λ _. k) h

  pub tells_in : (x : Setting) → TellsLargest a.told.graph a.left → TellsLargest (settled x p s a).told.graph (settled x p s a).left
  tells_in x h = by_setting (λ b. TellsLargest b.told.graph b.left) x h (λ _. record { of_read = λ r. never r refl; of_unread = λ _. refl })

  -- what was accepted is kept
  pub accepted_left : (x : Setting) → is_accepted (settled x p s a).told ≡ true → (settled x p s a).left ≡ a.left
  accepted_left x = by_setting (λ b. is_accepted b.told ≡ true → b.left ≡ a.left) x (λ _. refl) (λ _ h. never h refl)

  for_parents : (o : Outcome) → is_read o ≡ true → RefusedForParents (Refused 39) ↔ RefusedForParents o
  for_parents o h = (λ n. ⊎_elim (λ e. absurd (omega (arith, e))) (λ e. absurd (omega (arith, e))) n, λ n. absurd (unparented o h n))
    where
      unparented : (o : Outcome) → is_read o ≡ true → RefusedForParents o → ⊥
      unparented Read h n = n
      unparented (Refused m) h n = never h refl
      unparented (Stopped m) h n = n

  -- 39 is not for parents
  pub parents_in : (x : Setting) → RefusedForParents (settled x p s a).told.graph.answer.outcome ↔ RefusedForParents a.told.graph.answer.outcome
  parents_in x =
      by_setting (λ b. RefusedForParents b.told.graph.answer.outcome ↔ RefusedForParents a.told.graph.answer.outcome) x (λ n. n, λ n. n)
      (λ e. for_parents _ (both (is_read a.told.graph.answer.outcome) e).0)

  pub meets_in : (x : Setting) → Meets x p (settled x p s a).told
  unfolding settled
  meets_in library = tt
  meets_in show = by_question (λ b. Meets show p b.told) (λ e h. met h e) (λ _ h. never h refl)
    where
      met : is_read a.told.graph.answer.outcome ≡ true → follow ≡ false → spare p.bytes a.told.graph.answer.position ≡ true
      met h e = go (spare p.bytes a.told.graph.answer.position) (rw h at e)
        where
          go : (b : Bool) → not b ≡ false → b ≡ true
          go true q = refl
          go false q = never refl q

module _ (x : Setting) (step : Step Packet (List PositionSyntax) Given) where
  pub leaves_in : Leaves step is_accepted → Leaves (step_in x step) is_accepted
  leaves_in l p s = by_setting p s (step p s) (λ a. is_accepted a.told ≡ false → a.left ≡ s) x (l p s) (λ _ _. refl)

  pub keeps_in : {I : List PositionSyntax → Type 0} → Keeps step I → Keeps (step_in x step) I
  keeps_in {I} k p s h = by_setting p s (step p s) (λ a. I a.left) x (k p s h) (λ _. h)
