-- Fields written one after the other.
use Prim.Native.Nat.{ℕ, suc, ◌+◌, ◌*◌}
use mathlib.Core.Path.{◌≡◌, refl, ap, ◌∙◌}
use mathlib.Core.List.{List, [], ◌∷◌, ◌++◌}
use mathlib.Core.Bool.{Bool, true, false}
use native.Mathlib.Omega.{arith}
use native.Mathlib.Nat.{add-zero}
use lib.ListN.{length, set}
use lib.Seq.{sets, length-sets}
use Rattle.rules.specs.declared.Field.{Field}
use Rattle.rules.specs.Words.{words_of, encoded, recorded}

pub encoded_append : (fs gs : List Field) → encoded (fs ++ gs) ≡ encoded fs ++ encoded gs
unfolding encoded
encoded_append [] gs = refl
encoded_append (f ∷ fs) gs = ap (λ (l : List ℕ). words_of f ++ l) (encoded_append fs gs)

pub encoded_length : (fs : List Field) → length (encoded fs) ≡ 5 * length fs
unfolding encoded
encoded_length [] = refl
encoded_length (f ∷ fs) = omega (arith, encoded_length fs)

pub sets_append : (ws : List ℕ) (i : ℕ) (xs ys : List ℕ) → sets ws i (xs ++ ys) ≡ sets (sets ws i xs) (i + length xs) ys
sets_append ws i [] ys = rw add-zero
sets_append ws i (x ∷ xs) ys =
    let e : suc i + length xs ≡ i + suc (length xs) = omega arith in
    sets_append (set ws i x) (suc i) xs ys ∙ rw e

pub recorded_append : (rec : Bool) (ws : List ℕ) (n : ℕ) (fs gs : List Field) →
    recorded rec ws n (fs ++ gs) ≡ recorded rec (recorded rec ws n fs) (n + length fs) gs
unfolding recorded
recorded_append true ws n fs gs =
    let e : 5 * n + length (encoded fs) ≡ 5 * (n + length fs) = omega (arith, encoded_length fs) in
    rw (encoded_append, sets_append, e)
recorded_append false ws n fs gs = refl

pub recorded_none : (rec : Bool) (ws : List ℕ) (n : ℕ) → recorded rec ws n [] ≡ ws
unfolding recorded encoded
recorded_none true ws n = refl
recorded_none false ws n = refl

pub recorded_length : (rec : Bool) (ws : List ℕ) (n : ℕ) (fs : List Field) → length (recorded rec ws n fs) ≡ length ws
unfolding recorded
recorded_length true ws n fs = length-sets ws (5 * n) (encoded fs)
recorded_length false ws n fs = refl
