-- The test of two texts is whether they are the same.
use Prim.Native.Nat.{ℕ}
use mathlib.Core.Path.{◌≡◌, refl, sym, ap₂}
use mathlib.Core.List.{List, [], ◌∷◌}
use mathlib.Core.Bool.{Bool, true, false}
use borrow.Author.Tests.{eqb-true, eq-eqb}
use lib.Dec.{eqb}
use Rattle.rules.proofs.Laws.{never, both}
use Rattle.text.specs.Text.{same_text}

same_if : (a : List ℕ) → same_text a a ≡ true
unfolding same_text
same_if [] = refl
same_if (c ∷ a) = rw (eq-eqb c c refl) (same_if a)

if_same : (a b : List ℕ) → same_text a b ≡ true → a ≡ b
unfolding same_text
if_same [] [] t = refl
if_same [] (d ∷ b) t = never t refl
if_same (c ∷ a) [] t = never t refl
if_same (c ∷ a) (d ∷ b) t = ap₂ (λ (e : ℕ) (l : List ℕ). e ∷ l) (eqb-true c d (both (eqb c d) t).0) (if_same a b (both (eqb c d) t).1)

pub same_is : (a b : List ℕ) (r : Bool) → (r ≡ true → a ≡ b) × (a ≡ b → r ≡ true) → r ≡ same_text a b
same_is a b true f = rw (← f.0 refl) (sym (same_if a))
same_is a b false f = go (same_text a b) refl
  where
    go : (t : Bool) → same_text a b ≡ t → false ≡ same_text a b
    go true e = never (f.1 (if_same a b e)) refl
    go false e = sym e
