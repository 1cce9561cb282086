-- Question 2 of an update: one turn of the code's loop, and what it says of each shape.
use Prim.Native.Nat.{ℕ, zero, suc, ◌+◌, ◌<◌, ◌≤◌}
use mathlib.Core.Path.{◌≡◌, refl, sym, ap, ◌∙◌}
use mathlib.Core.List.{List, [], ◌∷◌}
use mathlib.Core.Bool.{Bool, true, false, ◌&&◌}
use native.Mathlib.Omega.{arith}
use borrow.Author.Tests.{leb-true, le-leb, lt-leb}
use lib.Dec.{leb}
use native.Mathlib.Numerals.{add-one}
use lib.ListN.{length, get_or, take, drop, drop_of_length-le}
use lib.Seq.{drop-cons}
use Rattle.rules.specs.Rule.{pick}
use Rattle.rules.proofs.Laws.{both}
use Rattle.position.specs.declared.PositionSyntax.{PositionSyntax}
use Rattle.position.specs.Shape.{default}
use Rattle.position.specs.Formed.{is_shaped}
use Rattle.position.specs.Formed.{Shaped}
use Rattle.position.proofs.Formed.{shaped_when}
use Rattle.update.specs.Update.{all_shaped, may_update, shapes_question}

module _ (shapes : List PositionSyntax) (i : ℕ) where
  -- the shapes from `i` on
  turn : i < length shapes → all_shaped (drop i shapes) ≡ (is_shaped (get_or shapes i default) && all_shaped (drop (i + 1) shapes))
  unfolding all_shaped
  turn h = rw (add-one, drop-cons shapes i default h)

  module _ {b : Bool} (e : b ≡ is_shaped (get_or shapes i default)) (h : i < length shapes) (left : all_shaped (drop i shapes) ≡ all_shaped shapes) where
    pub shape_kept : b ≡ true → all_shaped (drop (i + 1) shapes) ≡ all_shaped shapes
    shape_kept q = rw (turn h, ← e, q) at left

    pub shape_broken : b ≡ false → false ≡ all_shaped shapes
    shape_broken q = rw (turn h, ← e, q) at left

  pub shapes_kept : length shapes ≤ i → all_shaped (drop i shapes) ≡ all_shaped shapes → true ≡ all_shaped shapes
  unfolding all_shaped
  shapes_kept h left = rw (drop_of_length-le shapes h) at left

-- each shape of a list that has none above 24
all_at : (shapes : List PositionSyntax) → all_shaped shapes ≡ true → (i : ℕ) → i < length shapes → Shaped (get_or shapes i default)
unfolding all_shaped
all_at [] h i l = absurd (omega arith)
all_at (sh ∷ shapes) h zero l = shaped_when sh (both (is_shaped sh) h).0
all_at (sh ∷ shapes) h (suc i) l = all_at shapes (both (is_shaped sh) h).1 i (omega arith)

-- its number, by the code's own tests
module _ (count : ℕ) (shapes : List PositionSyntax) where
  abbrev numbered : Bool → ℕ
  numbered few = pick (few && all_shaped shapes) 0 2

  pub too_many : 63 < count → 2 ≡ shapes_question count shapes
  too_many h = sym (ap numbered (lt-leb _ _ h))

  pub all_asked : {b : Bool} → count ≤ 63 → b ≡ all_shaped shapes → ◌≡◌ {A = ℕ} (pick b 0 2) (shapes_question count shapes)
  all_asked h q = sym (ap numbered (le-leb _ _ h) ∙ ap (λ (b : Bool). pick {A = ℕ} b 0 2) (sym q))

-- question 2 is met where its number is 0
question_met : (b : Bool) → ◌≡◌ {A = ℕ} (pick b 0 2) 0 → b ≡ true
question_met true h = refl
question_met false h = absurd (omega arith)

-- what it says where it is met
module _ (shapes : List PositionSyntax) (count : ℕ) (long : length shapes ≡ 63) (q : ◌≡◌ {A = ℕ} (shapes_question count (take count shapes)) 0) where
  met : may_update count (take count shapes) ≡ true
  met = question_met _ q

  pub few_shapes : count ≤ 63
  few_shapes = leb-true count 63 (both (leb count 63) met).0

  pub shapes_shaped : (i : ℕ) → i < length (take count shapes) → Shaped (get_or (take count shapes) i default)
  shapes_shaped i l = all_at (take count shapes) (both (leb count 63) met).1 i l
