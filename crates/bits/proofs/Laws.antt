-- Laws of the value of a run of bits, over every width: it is a number of w bits; a run in two parts; a part of a run; a run in a
-- word of 64 bits, and in the byte after it.
use Prim.Native.Nat.{ℕ, zero, suc, ◌+◌, ◌-◌, ◌*◌, ◌/◌, ◌%◌, ◌^◌, ◌<◌, ◌≤◌}
use mathlib.Core.Path.{◌≡◌, refl, sym, ap, ◌∙◌}
use mathlib.Core.List.{List}
use native.Mathlib.Nat.{add-suc, add-zero, add_assoc, add_comm, mul_assoc, mul-one, one-mul, mod-eq_of_lt, pow-zero, pow-suc, zero-div}
use native.Mathlib.Omega.{arith}
use lib.ListN.{length, get_or, get_or-eq_default}
use lib.Bits.{bit_or, or_shifted}
use lib.Pow.{low, high, pow-add, pow-lt, shl_exact, shl_lt, shl-shr, shr-shr}
use Rattle.bits.specs.Bits.{bit_at, bits_at}

pub bit_lt : (bytes : List ℕ) (p : ℕ) → bit_at bytes p < 2
unfolding bit_at
bit_lt bytes p = omega arith

pub bits_lt : (bytes : List ℕ) (p w : ℕ) → bits_at bytes p w < 2 ^ w
unfolding bits_at
bits_lt bytes p zero = rw pow-zero (omega arith)
bits_lt bytes p (suc w) = rw pow-suc (omega (arith, bits_lt bytes p w, bit_lt bytes (p + w)))

-- a run of a bits and then b bits
pub bits_split : (bytes : List ℕ) (p a b : ℕ) → bits_at bytes p (a + b) ≡ bits_at bytes p a * 2 ^ b + bits_at bytes (p + a) b
unfolding bits_at
bits_split bytes p a zero = simp (add-zero, pow-zero, mul-one)
bits_split bytes p a (suc b) =
    let e = bits_split bytes p a b in
    rw (add-suc, pow-suc, e, add_assoc, ← mul_assoc) (omega arith)

-- a run of a bits in a word of 64, shifted to make room for the b bits after it
pub bits_joined : (bytes : List ℕ) (p a b : ℕ) {v y : ℕ} → a + b ≤ 64 → v ≡ bits_at bytes p a → y ≡ bits_at bytes (p + a) b
    → bit_or ((v * 2 ^ b) % 2 ^ 64) y ≡ bits_at bytes p (a + b)
bits_joined bytes p a b l e f =
    rw (
      e,
      f,
      shl_exact a b 64 (bits_lt bytes p a) l,
      or_shifted (bits_at bytes p a) b (bits_at bytes (p + a) b) (bits_lt bytes (p + a) b),
    )
    (sym (bits_split bytes p a b))

-- a one shifted loses nothing
pub one_shifted : (k : ℕ) → k < 64 → 1 * 2 ^ k % 2 ^ 64 ≡ 2 ^ k
one_shifted k h = rw one-mul (mod-eq_of_lt (pow-lt h))

-- the first j bits of byte q
byte_front : (bytes : List ℕ) (q j : ℕ) → get_or bytes q 0 < 256 → j ≤ 8 → bits_at bytes (8 * q) j ≡ get_or bytes q 0 / 2 ^ (8 - j)
unfolding bits_at bit_at
byte_front bytes q zero h l = omega arith
byte_front bytes q (suc j) h l =
    let e = byte_front bytes q j h (omega arith) in
    let e1 : (8 * q + j) / 8 ≡ q = omega arith in
    let e2 : (8 * q + j) % 8 ≡ j = omega arith in
    let e3 : 8 - j ≡ (7 - j) + 1 = omega arith in
    let e4 : 8 - suc j ≡ 7 - j = omega arith in
    rw (e, e1, e2, e3, e4, ← shr-shr) (omega arith)

-- a whole byte
pub whole_byte : (bytes : List ℕ) (k : ℕ) → get_or bytes k 0 < 256 → get_or bytes k 0 ≡ bits_at bytes (8 * k) 8
whole_byte bytes k h = rw (byte_front bytes k 8 h (omega arith)) (omega arith)

-- the first w of so many bits
pub bits_front : (bytes : List ℕ) (p w k : ℕ) → bits_at bytes p (w + k) / 2 ^ k ≡ bits_at bytes p w
bits_front bytes p w k = rw (bits_split bytes p w k) (high (bits_at bytes p w) k (bits_lt bytes (p + w) k))

-- w of so many bits, the first r left out, and the last k shifted out
pub bits_cut : (bytes : List ℕ) (p r w k : ℕ) {n v : ℕ} → r + w + k ≡ n → v ≡ bits_at bytes p n → v / 2 ^ k % 2 ^ w ≡ bits_at bytes (p + r) w
bits_cut bytes p r w k e f =
    rw (f, ← e, bits_front bytes p (r + w) k, bits_split bytes p r w) (low (bits_at bytes p r) w (bits_lt bytes (p + r) w))

-- n bits from p on, all of one byte
pub bits_in_byte : (bytes : List ℕ) (p n : ℕ) → get_or bytes (p / 8) 0 < 256 → p % 8 + n ≤ 8 →
    get_or bytes (p / 8) 0 / 2 ^ (8 - p % 8 - n) % 2 ^ n ≡ bits_at bytes p n
bits_in_byte bytes p n h l =
    let at : 8 * (p / 8) + p % 8 ≡ p = omega arith in
    bits_cut bytes (8 * (p / 8)) (p % 8) n (8 - p % 8 - n) (omega arith) (whole_byte bytes (p / 8) h) ∙ ap (λ (x : ℕ). bits_at bytes x n) at

-- past the end all bits are 0
pub bits_past : (bytes : List ℕ) (p w : ℕ) → 8 * length bytes ≤ p → bits_at bytes p w ≡ 0
unfolding bits_at bit_at
bits_past bytes p zero h = refl
bits_past bytes p (suc w) h =
    let none : get_or bytes ((p + w) / 8) 0 ≡ 0 = get_or-eq_default bytes 0 (omega (arith, h)) in
    rw (bits_past bytes p w h, none, zero-div) refl

-- 64 bits of which the first r are shifted out
shifted_out : (bytes : List ℕ) (p r a : ℕ) → r + a ≡ 64 → bits_at bytes p 64 * 2 ^ r % 2 ^ 64 ≡ bits_at bytes (p + r) a * 2 ^ r
shifted_out bytes p r a e =
    let first = bits_at bytes p r in
    let rest = bits_at bytes (p + r) a in
    let all : 2 ^ 64 ≡ 2 ^ (a + r) = ap (λ (x : ℕ). 2 ^ x) (sym e ∙ add_comm r a) in
    let parts : bits_at bytes p 64 ≡ first * 2 ^ a + rest = ap (bits_at bytes p) (sym e) ∙ bits_split bytes p r a in
    let moved : (first * 2 ^ a + rest) * 2 ^ r ≡ first * 2 ^ (a + r) + rest * 2 ^ r = rw pow-add (omega arith) in
    rw (parts, moved, all) (low first (a + r) (shl_lt a r (bits_lt bytes (p + r) a)))

-- the w bits that are then in front
pub bits_in_word : (bytes : List ℕ) (p r w : ℕ) → r + w ≤ 64 → bits_at bytes p 64 * 2 ^ r % 2 ^ 64 / 2 ^ (64 - w) ≡ bits_at bytes (p + r) w
bits_in_word bytes p r w l =
    let k = 64 - r - w in
    let a : r + (w + k) ≡ 64 = omega arith in
    let behind : 64 - w ≡ r + k = omega arith in
    rw (shifted_out bytes p r (w + k) a, behind, ← shr-shr, shl-shr) (bits_front bytes (p + r) w k)

-- 64 bits of which the last r are in the byte after the word
pub bits_in_nine : (bytes : List ℕ) (p r : ℕ) → r ≤ 8 →
    bit_or (bits_at bytes p 64 * 2 ^ r % 2 ^ 64) (bits_at bytes (p + 64) 8 / 2 ^ (8 - r)) ≡ bits_at bytes (p + r) 64
bits_in_nine bytes p r l =
    let a : r + (64 - r) ≡ 64 = omega arith in
    let back : 64 - r + r ≡ 64 = omega arith in
    let at : p + r + (64 - r) ≡ p + 64 = omega arith in
    let eight : r + (8 - r) ≡ 8 = omega arith in
    let ninth : bits_at bytes (p + 64) 8 / 2 ^ (8 - r) ≡ bits_at bytes (p + r + (64 - r)) r =
    ap (λ (x : ℕ). bits_at bytes (p + 64) x / 2 ^ (8 - r)) (sym eight) ∙ bits_front bytes (p + 64) r (8 - r)
    ∙ ap (λ (x : ℕ). bits_at bytes x r) (sym at) in
    rw (
      shifted_out bytes p r (64 - r) a,
      ninth,
      or_shifted (bits_at bytes (p + r) (64 - r)) r (bits_at bytes (p + r + (64 - r)) r) (bits_lt bytes (p + r + (64 - r)) r),
    )
    (sym (bits_split bytes (p + r) (64 - r) r) ∙ ap (bits_at bytes (p + r)) back)
