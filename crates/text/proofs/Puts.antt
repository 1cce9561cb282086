-- Texts put one after the other.
use Prim.Native.Nat.{ℕ, suc, ◌+◌, ◌≤◌}
use mathlib.Core.Path.{◌≡◌, refl, sym, ap, ◌∙◌}
use mathlib.Core.List.{List, [], ◌∷◌, ◌++◌}
use native.Mathlib.Omega.{arith}
use native.Mathlib.Nat.{add-zero}
use lib.ListN.{length, length-append, set, take, drop}
use lib.Seq.{take-set-le, drop-set-lt, sets, sets-eq, length-sets, take_at}
use Rattle.rules.proofs.Words.{sets_append}
use Rattle.text.specs.Text.{Put}

-- the bytes are as many as before
pub put_long : {before : List ℕ} {at : ℕ} {text : List ℕ} {to : ℕ} {after : List ℕ} → Put before at text to after → length after ≡ length before
put_long {before} {at} {text} p = ap (λ (l : List ℕ). length l) p.bytes ∙ length-sets before at text

-- two texts are one
pub put_both : {before : List ℕ} {at : ℕ} {a b : List ℕ} {r s : ℕ} {l m : List ℕ} → Put before at a r l → Put l r b s m → Put before at (a ++ b) s m
put_both {before} {at} {a} {b} p q = record {
  place = let e = length-append a b in let f = p.place in let g = q.place in omega arith;
  bytes = q.bytes ∙ rw (p.bytes, p.place) (sym (sets_append before at a b));
}

-- where there is room for both, there is for the first, and then for the second
pub room_first : (at : ℕ) (a b : List ℕ) {n : ℕ} → at + length (a ++ b) ≤ n → at + length a ≤ n
room_first at a b h = let e = length-append a b in omega arith

pub room_next : {before : List ℕ} {at : ℕ} (a b : List ℕ) {r : ℕ} {l : List ℕ} → Put before at a r l → at + length (a ++ b) ≤ length before → r + length b ≤ length l
room_next a b p h = let e = length-append a b in let f = p.place in let g = put_long p in omega arith

-- a text that was put at the beginning stands there
pub put_front : {before text : List ℕ} {to : ℕ} {after : List ℕ} → Put before 0 text to after → length text ≤ length before → take to after ≡ text
put_front {before} {text} p h =
    let e : 0 + length text ≡ length text = omega arith in
    rw (p.bytes, p.place, e, sets-eq text before 0 (omega arith)) (take_at text (drop (0 + length text) before) (length text) refl)

-- and the bytes before a text and after it are as they were
sets_before : (l : List ℕ) (i : ℕ) (vs : List ℕ) (n : ℕ) → n ≤ i → take n (sets l i vs) ≡ take n l
sets_before l i [] n h = refl
sets_before l i (v ∷ vs) n h = sets_before (set l i v) (suc i) vs n (omega arith) ∙ take-set-le n l i v h

sets_after : (l : List ℕ) (i : ℕ) (vs : List ℕ) (n : ℕ) → i + length vs ≤ n → drop n (sets l i vs) ≡ drop n l
sets_after l i [] n h = refl
sets_after l i (v ∷ vs) n h = sets_after (set l i v) (suc i) vs n (omega arith) ∙ drop-set-lt n l i v (omega arith)

pub put_before : {before : List ℕ} {at : ℕ} {text : List ℕ} {to : ℕ} {after : List ℕ} → Put before at text to after → take at after ≡ take at before
put_before {before} {at} {text} p = ap (take at) p.bytes ∙ sets_before before at text at (omega arith)

pub put_after : {before : List ℕ} {at : ℕ} {text : List ℕ} {to : ℕ} {after : List ℕ} → Put before at text to after → drop to after ≡ drop to before
put_after {before} {at} {text} {to} p = ap (drop to) p.bytes ∙ sets_after before at text to (omega (arith, p.place))

-- no text
pub put_none : {before : List ℕ} {at : ℕ} → Put before at [] at before
put_none {at = at} = record { place = sym (add-zero at); bytes = refl }
