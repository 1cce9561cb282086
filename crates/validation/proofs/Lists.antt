-- Lists that are copied place by place: one has the first `i` of another, and at the end all of them; and parts of mapped lists.
use Prim.Native.Nat.{ℕ, zero, suc, ◌+◌, ◌<◌}
use mathlib.Core.Path.{◌≡◌, refl, sym, ◌∙◌, ap}
use mathlib.Core.List.{List, [], ◌∷◌, ◌++◌, map}
use native.Mathlib.Numerals.{add-one}
use native.Mathlib.Omega.{arith}
use lib.ListN.{length, take, get_or, set, length-map}
use lib.Seq.{take-suc, take-suc-set, take-length}
use Rattle.std.proofs.Math.ListN.{get_or-map}
use Rattle.position.specs.declared.PositionSyntax.{PositionSyntax}
use Rattle.position.specs.Shape.{default}
use Rattle.validation.specs.Validation.{parents}

module _ {A : Type 0} (xs ys : List A) where
  pub one_more : (i : ℕ) (d : A) → i < length xs → i < length ys → take i xs ≡ take i ys → take (i + 1) (set xs i (get_or ys i d)) ≡ take (i + 1) ys
  one_more i d h k e =
      rw add-one
      (take-suc-set xs i (get_or ys i d) h ∙ ap (λ (l : List A). l ++ get_or ys i d ∷ []) e ∙ sym (take-suc ys i d k))

  pub all_copied : (i n : ℕ) → i ≡ n → length ys ≡ n → take i xs ≡ take i ys → take n xs ≡ ys
  all_copied i n p q e = ap (λ (k : ℕ). take k xs) (sym p) ∙ e ∙ ap (λ (k : ℕ). take k ys) (p ∙ sym q) ∙ take-length ys

pub map_take : {A B : Type 0} (f : A → B) (n : ℕ) (l : List A) → map f (take n l) ≡ take n (map f l)
map_take f zero l = refl
map_take f (suc n) [] = refl
map_take f (suc n) (x ∷ l) = ap (λ (t : List _). f x ∷ t) (map_take f n l)

-- the parents of shapes: one more, and all of them
pub one_parent : (shapes : List PositionSyntax) (out : List ℕ) (i : ℕ) → i < length out → i < length shapes → take i out ≡ take i (parents shapes) →
    take (i + 1) (set out i (get_or shapes i default).parent) ≡ take (i + 1) (parents shapes)
one_parent shapes out i h k e =
    rw (← get_or-map (λ (s : PositionSyntax). s.parent) shapes i default) (one_more out (parents shapes) i 0 h (omega (arith, length-map shapes (λ (s : PositionSyntax). s.parent))) e)

pub all_parents : (shapes : List PositionSyntax) (out : List ℕ) (i : ℕ) → i ≡ length shapes → length out ≡ length shapes → take i out ≡ take i (parents shapes) → out ≡ parents shapes
all_parents shapes out i p q e =
    let many = length-map shapes (λ (s : PositionSyntax). s.parent) in
    sym (take-length out) ∙ all_copied out (parents shapes) i (length out) (omega arith) (omega arith) e
