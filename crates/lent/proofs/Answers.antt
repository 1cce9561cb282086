-- From what the reading of an update promises to the same of lent shapes.
use Prim.Native.Nat.{ℕ, ◌≤◌}
use mathlib.Core.Path.{◌≡◌, refl, sym, ◌∙◌, ap}
use mathlib.Core.List.{List}
use mathlib.Core.Bool.{Bool, true, false}
use native.Mathlib.Omega.{arith}
use borrow.Author.Tests.{leb-true}
use lib.Dec.{leb}
use lib.ListN.{length, take}
use Rattle.rules.specs.declared.Answer.{Answer}
use Rattle.rules.specs.Reading.{Input, is_read}
use Rattle.rules.specs.Answer.{outcome_of}
use Rattle.rules.proofs.Laws.{never}
use Rattle.rules.proofs.Answers.{entry_any, entry_unread}
use Rattle.position.specs.declared.PositionSyntax.{PositionSyntax}
use Rattle.validation.specs.declared.GraphAnswer.{GraphAnswer}
use Rattle.validation.specs.Validation.{GraphAnswered}
use Rattle.validation.proofs.Answers.{read_over, unread_over}
use Rattle.update.specs.Update.{graph_update, update_reading, UpdateGiven}

-- `array` is a copy of the lent shapes, if they are at most 63
module _ (shapes array : List PositionSyntax) (copy : length shapes ≤ 63 → take (length shapes) array ≡ shapes) where
  abbrev count : ℕ
  count = length shapes

  -- at most 63, or not
  by_count : {B : Type 0} → (count ≤ 63 → B) → (leb count 63 ≡ false → B) → B
  by_count {B} few many = go (leb count 63) refl
    where
      go : (b : Bool) → leb count 63 ≡ b → B
      go true e = few (leb-true count 63 e)
      go false e = many e

  module _ (i : Input) (offset : ℕ) where
    -- what looks at no more than 63 shapes is the same of the copy
    same_reading : update_reading i offset count (take count array) ≡ update_reading i offset count shapes
    same_reading = by_count
        (λ h. ap (update_reading i offset count) (copy h))
        (λ e. rw e (entry_any i 2 offset (graph_update (take count array)) (λ z. omega arith) (graph_update shapes)))

    -- an update of the array: `b` is whether it was read
    module _ {rec : Bool} {ws vs : List ℕ} {a : GraphAnswer} {after : List PositionSyntax} (m : UpdateGiven (update_reading i offset count (take count array)) count array rec ws a after vs) {b : Bool} (t : b ≡ is_read a.answer.outcome) where
      given : GraphAnswered (update_reading i offset count shapes) (take count after) rec ws a (take count after) vs
      given = rw same_reading at m.answered

      told : b ≡ is_read (outcome_of (update_reading i offset count shapes).result)
      told = t ∙ ap (λ (r : Answer). is_read r.outcome) given.answered.answer

      pub update_read : {u : List PositionSyntax} → b ≡ true → u ≡ take count after → GraphAnswered (update_reading i offset count shapes) shapes rec ws a u vs
      update_read h p = rw p (read_over given shapes (sym t ∙ h))

      pub update_ended : b ≡ false → GraphAnswered (update_reading i offset count shapes) shapes rec ws a shapes vs
      update_ended h = unread_over given shapes (sym t ∙ h)

      -- one that was read has at most 63 shapes
      pub few : b ≡ true → length shapes ≤ 63
      few h = by_count (λ l. l) (λ q. never (sym told ∙ h) (rw q (entry_unread i 2 offset (graph_update shapes) (λ z. omega arith))))
