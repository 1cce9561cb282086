-- Eight bytes gathered with the first of them lowest, as a processor loads them, and then put in the other order, are the bits of
-- the definition.
use Prim.Native.Nat.{ℕ, zero, suc, ◌+◌, ◌-◌, ◌*◌, ◌/◌, ◌%◌, ◌^◌, ◌<◌}
use mathlib.Core.Path.{◌≡◌, refl, sym, ap, ◌∙◌}
use mathlib.Core.List.{List}
use native.Mathlib.Nat.{mod-lt}
use native.Mathlib.Omega.{arith}
use lib.Bits.{bit_and, bit_or, and_mask, or_shifted, or_shifted_r}
use lib.Pow.{pow-add, pow_pos, low, high, shl_exact}
use Rattle.bits.specs.Bits.{bits_at}
use Rattle.bits.specs.Words.{lowest_first, swapped}
use Rattle.bits.proofs.Laws.{bits_lt, bits_split}

byte_more : (n : ℕ) → 2 ^ (8 * suc n) ≡ 2 ^ (8 * n) * 2 ^ 8
byte_more n =
    let e : 8 * suc n ≡ 8 * n + 8 = omega arith in
    ap (λ (x : ℕ). 2 ^ x) e ∙ pow-add 2 (8 * n) 8

pub lowest_first_lt : (bytes : List ℕ) (q n : ℕ) → lowest_first bytes q n < 2 ^ (8 * n)
unfolding lowest_first
lowest_first_lt bytes q zero = omega arith
lowest_first_lt bytes q (suc n) = rw (byte_more n) (omega (arith, lowest_first_lt bytes (suc q) n, bits_lt bytes (8 * q) 8))

-- one byte more
pub one_more : (bytes : List ℕ) (q n : ℕ) →
    bits_at bytes (8 * (q + n)) 8 * 2 ^ (8 * n) + lowest_first bytes q n ≡ lowest_first bytes q (suc n)
unfolding lowest_first
one_more bytes q zero =
    let here : q + 0 ≡ q = omega arith in
    rw here (omega arith)
one_more bytes q (suc n) =
    let e = one_more bytes (suc q) n in
    let here : q + suc n ≡ suc q + n = omega arith in
    rw (here, byte_more n, ← e) (omega arith)

-- the bytes in the other order are the bits of the definition
pub swapped_back : (bytes : List ℕ) (q n : ℕ) → swapped n (lowest_first bytes q n) ≡ bits_at bytes (8 * q) (8 * n)
unfolding lowest_first swapped bits_at
swapped_back bytes q zero = refl
swapped_back bytes q (suc n) =
    let h = bits_lt bytes (8 * q) 8 in
    let next = swapped_back bytes (suc q) n in
    let at : 8 * suc q ≡ 8 * q + 8 = omega arith in
    let all : 8 * suc n ≡ 8 + 8 * n = omega arith in
    rw (low (lowest_first bytes (suc q) n) 8 h, high (lowest_first bytes (suc q) n) 8 h, next, at, all)
    (sym (bits_split bytes (8 * q) 8 (8 * n)))

-- a byte shifted to its place behind those that are gathered
pub gathered : (bytes : List ℕ) (q n : ℕ) {word byte : ℕ} → n < 8 → word ≡ lowest_first bytes q n → byte ≡ bits_at bytes (8 * (q + n)) 8
    → bit_or word (byte * 2 ^ (8 * n) % 2 ^ 64) ≡ lowest_first bytes q (n + 1)
gathered bytes q n l e f =
    let here = bits_at bytes (8 * (q + n)) 8 in
    let next : n + 1 ≡ suc n = omega arith in
    rw (
      e,
      f,
      next,
      shl_exact 8 (8 * n) 64 (bits_lt bytes (8 * (q + n)) 8) (omega arith),
      or_shifted_r here (8 * n) (lowest_first bytes q n) (lowest_first_lt bytes q n),
    )
    (one_more bytes q n)

-- the lowest byte of what is left, shifted in behind the n bytes that are swapped
pub moved : (n rest : ℕ) {t : ℕ} → n < 8 → t < 2 ^ (8 * n) → bit_or (t * 2 ^ 8 % 2 ^ 64) (bit_and rest 255) ≡ t * 2 ^ 8 + rest % 2 ^ 8
moved n rest {t} l h =
    rw (shl_exact (8 * n) 8 64 h (omega arith), and_mask rest 8) (or_shifted t 8 (rest % 2 ^ 8) (mod-lt rest (pow_pos 8)))

pub moved_lt : (n rest : ℕ) {t : ℕ} → t < 2 ^ (8 * n) → t * 2 ^ 8 + rest % 2 ^ 8 < 2 ^ (8 * (n + 1))
moved_lt n rest h =
    let e : 8 * (n + 1) ≡ 8 * suc n = omega arith in
    rw (e, byte_more n) (omega (arith, h))

-- what is left of the swapped word is as it was
pub still_swapped : (n rest t : ℕ) → n < 8 →
    (t * 2 ^ 8 + rest % 2 ^ 8) * 2 ^ (8 * (8 - (n + 1))) + swapped (8 - (n + 1)) (rest / 2 ^ 8) ≡ t * 2 ^ (8 * (8 - n)) + swapped (8 - n) rest
unfolding swapped
still_swapped n rest t l =
    let m = 8 - (n + 1) in
    let left : 8 - n ≡ suc m = omega arith in
    rw (left, byte_more m) (omega arith)
