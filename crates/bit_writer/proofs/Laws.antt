-- Bits as lists: a run in two parts, the bits of bytes as those of their number, and the bits of a byte that is set.
use Prim.Native.Nat.{ℕ, zero, suc, ◌+◌, ◌-◌, ◌*◌, ◌/◌, ◌%◌, ◌^◌, ◌<◌, ◌≤◌}
use mathlib.Core.Path.{◌≡◌, refl, sym, ap, ap₂, ◌∙◌}
use mathlib.Core.List.{List, ◌∷◌, ◌++◌}
use native.Mathlib.Nat.{suc-add, zero-add, add-zero, zero-div, zero-mod, mod-eq_of_lt, mod-lt}
use native.Mathlib.Omega.{arith}
use lib.ListN.{length, set}
use lib.Seq.{get_or-set_same, get_or-set_other}
use lib.Pow.{pow_pos, shr_lt, shr-shr, mod-mod-pow, field, high, low, split}
use Rattle.bits.specs.Bits.{bit_at, bits_at}
use Rattle.bits.proofs.Laws.{bit_lt, bits_lt, bits_split, bits_in_byte}
use Rattle.bit_writer.specs.Bits.{bits_of, bits_from, zeros}

pub length_bits_of : (w v : ℕ) → length (bits_of w v) ≡ w
unfolding bits_of
length_bits_of zero v = refl
length_bits_of (suc w) v = ap suc (length_bits_of w v)

pub length_bits_from : (bytes : List ℕ) (p n : ℕ) → length (bits_from bytes p n) ≡ n
unfolding bits_from
length_bits_from bytes p zero = refl
length_bits_from bytes p (suc n) = ap suc (length_bits_from bytes (p + 1) n)

pub length_zeros : (n : ℕ) → length (zeros n) ≡ n
unfolding zeros
length_zeros zero = refl
length_zeros (suc n) = ap suc (length_zeros n)

-- m bits, and n after them
pub bits_from_both : (bytes : List ℕ) (p m n : ℕ) → bits_from bytes p (m + n) ≡ bits_from bytes p m ++ bits_from bytes (p + m) n
unfolding bits_from
bits_from_both bytes p zero n = rw (zero-add, add-zero) refl
bits_from_both bytes p (suc m) n =
    let e : p + 1 + m ≡ p + suc m = omega arith in
    rw suc-add (ap (λ (l : List ℕ). bit_at bytes p ∷ l) (rw e at (bits_from_both bytes (p + 1) m n)))

-- the bits above b, and the b low ones
pub bits_of_both : (a b v : ℕ) → bits_of (a + b) v ≡ bits_of a (v / 2 ^ b) ++ bits_of b v
unfolding bits_of
bits_of_both zero b v = rw zero-add refl
bits_of_both (suc a) b v =
    let e : b + a ≡ a + b = omega arith in
    rw suc-add (ap₂ (λ (x : ℕ) (l : List ℕ). x % 2 ∷ l) (sym (rw e at (shr-shr v b a))) (bits_of_both a b v))

-- a number without its high bits
bit_low : (w m v : ℕ) → w < m → v % 2 ^ m / 2 ^ w % 2 ≡ v / 2 ^ w % 2
bit_low w m v h =
    let e : (m - w) + w ≡ m = omega arith in
    let one : (m - w - 1) + 1 ≡ m - w = omega arith in
    rw (← e, field v (m - w) w, ← one) (mod-mod-pow (v / 2 ^ w) (m - w - 1) 1)

pub bits_of_low : (w m v : ℕ) → w ≤ m → bits_of w (v % 2 ^ m) ≡ bits_of w v
unfolding bits_of
bits_of_low zero m v h = refl
bits_of_low (suc w) m v h = ap₂ (λ (x : ℕ) (l : List ℕ). x ∷ l) (bit_low w m v (omega arith)) (bits_of_low w m v (omega arith))

-- a number of b bits behind another
pub bits_of_joined : (a b x y : ℕ) → y < 2 ^ b → bits_of (a + b) (x * 2 ^ b + y) ≡ bits_of a x ++ bits_of b y
bits_of_joined a b x y h =
    let front = high x b h in
    let back = sym (bits_of_low b b (x * 2 ^ b + y) (omega arith)) ∙ ap (bits_of b) (low x b h) in
    bits_of_both a b (x * 2 ^ b + y) ∙ ap₂ (λ (k l : List ℕ). k ++ l) (ap (bits_of a) front) back

pub bits_of_zero : (n : ℕ) → bits_of n 0 ≡ zeros n
unfolding bits_of zeros
bits_of_zero zero = refl
bits_of_zero (suc n) = ap₂ (λ (x : ℕ) (l : List ℕ). x ∷ l) (rw (zero-div, zero-mod) refl) (bits_of_zero n)

-- a bit, and then w bits
one_bit : (bytes : List ℕ) (p : ℕ) → bits_at bytes p 1 ≡ bit_at bytes p
unfolding bits_at
one_bit bytes p = rw add-zero (omega arith)

pub bits_after : (bytes : List ℕ) (p w : ℕ) → bits_at bytes p (suc w) ≡ bit_at bytes p * 2 ^ w + bits_at bytes (p + 1) w
bits_after bytes p w =
    let e : 1 + w ≡ suc w = omega arith in
    rw (e, one_bit) at (bits_split bytes p 1 w)

-- the bits of bytes are those of their number
pub bits_from_at : (bytes : List ℕ) (p w : ℕ) → bits_from bytes p w ≡ bits_of w (bits_at bytes p w)
unfolding bits_from bits_of
bits_from_at bytes p zero = refl
bits_from_at bytes p (suc w) =
    let rest = bits_lt bytes (p + 1) w in
    let first : (bit_at bytes p * 2 ^ w + bits_at bytes (p + 1) w) / 2 ^ w % 2 ≡ bit_at bytes p =
    ap (λ (x : ℕ). x % 2) (high (bit_at bytes p) w rest) ∙ mod-eq_of_lt (bit_lt bytes p) in
    let others : bits_of w (bit_at bytes p * 2 ^ w + bits_at bytes (p + 1) w) ≡ bits_of w (bits_at bytes (p + 1) w) =
    sym (bits_of_low w w _ (omega arith)) ∙ ap (bits_of w) (low (bit_at bytes p) w rest) in
    rw bits_after (ap₂ (λ (x : ℕ) (l : List ℕ). x ∷ l) (sym first) (bits_from_at bytes (p + 1) w ∙ sym others))

-- two numbers of w bits that have the same bits are one
first_of : {x y : ℕ} {k l : List ℕ} → x ∷ k ≡ y ∷ l → x ≡ y
first_of e = cc

rest_of : {x y : ℕ} {k l : List ℕ} → x ∷ k ≡ y ∷ l → k ≡ l
rest_of e = cc

pub bits_of_once : (w u v : ℕ) → u < 2 ^ w → v < 2 ^ w → bits_of w u ≡ bits_of w v → u ≡ v
unfolding bits_of
bits_of_once zero u v h k e = omega arith
bits_of_once (suc w) u v h k e =
    let bit : u / 2 ^ w % 2 ≡ v / 2 ^ w % 2 = first_of e in
    let low_bits : bits_of w (u % 2 ^ w) ≡ bits_of w (v % 2 ^ w) =
    bits_of_low w w u (omega arith) ∙ rest_of e ∙ sym (bits_of_low w w v (omega arith)) in
    let back = bits_of_once w (u % 2 ^ w) (v % 2 ^ w) (mod-lt u (pow_pos w)) (mod-lt v (pow_pos w)) low_bits in
    let one : 1 + w ≡ suc w = omega arith in
    let front : u / 2 ^ w ≡ v / 2 ^ w = let a = shr_lt {n = u} 1 w (rw one h) in let b = shr_lt {n = v} 1 w (rw one k) in omega arith in
    sym (split u w) ∙ ap₂ (λ (x y : ℕ). x * 2 ^ w + y) front back ∙ split v w

pub bits_at_from : (bytes : List ℕ) (p w v : ℕ) → bits_from bytes p w ≡ bits_of w v → v < 2 ^ w → bits_at bytes p w ≡ v
bits_at_from bytes p w v e h = bits_of_once w (bits_at bytes p w) v (bits_lt bytes p w) h (sym (bits_from_at bytes p w) ∙ e)

-- a byte that is set: the bits before it, and its own
bit_before : (bytes : List ℕ) (k b p : ℕ) → p < 8 * k → bit_at (set bytes k b) p ≡ bit_at bytes p
unfolding bit_at
bit_before bytes k b p h = ap (λ (x : ℕ). x / 2 ^ (7 - p % 8) % 2) (get_or-set_other bytes k (p / 8) b 0 (omega arith))

pub bits_before_set : (bytes : List ℕ) (k b p n : ℕ) → p + n ≤ 8 * k → bits_from (set bytes k b) p n ≡ bits_from bytes p n
unfolding bits_from
bits_before_set bytes k b p zero h = refl
bits_before_set bytes k b p (suc n) h =
    ap₂ (λ (x : ℕ) (l : List ℕ). x ∷ l) (bit_before bytes k b p (omega arith)) (bits_before_set bytes k b (p + 1) n (omega arith))

pub bits_set : (bytes : List ℕ) (k b : ℕ) → k < length bytes → b < 256 → bits_from (set bytes k b) (8 * k) 8 ≡ bits_of 8 b
bits_set bytes k b h small =
    let place : 8 * k / 8 ≡ k = omega arith in
    let at_once : 8 * k % 8 ≡ 0 = omega arith in
    let here = get_or-set_same bytes k b 0 h in
    let byte : bits_at (set bytes k b) (8 * k) 8 ≡ b =
    sym (bits_in_byte (set bytes k b) (8 * k) 8 (rw (place, here) small) (omega arith)) ∙ rw (place, at_once, here) (omega arith) in
    bits_from_at (set bytes k b) (8 * k) 8 ∙ ap (bits_of 8) byte
