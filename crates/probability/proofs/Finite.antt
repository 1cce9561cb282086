-- When a binary32 pattern of 32 bits stands for a finite number: its 31 low bits are below 7F800000.
use Prim.Native.Nat.{ℕ, zero, suc, ◌+◌, ◌/◌, ◌%◌, ◌≤◌, ◌<◌}
use mathlib.Core.Path.{◌≡◌, refl, sym, subst}
use mathlib.Core.Bool.{Bool, true, false, cond, not}
use native.Mathlib.Omega.{arith}
use lib.Dec.{T, eqb, leb, ltb}
use lib.Bits.{bit_and, and_mask}
use lib.Ieee.{Float, nan, inf, fin, binary32, of_bits, of_fields, odd, is_nan, nan_bits, top, hid}
use lib.Ieee.Bits.{nan_bits_is}
use lib.Ieee.Scale.{finite}
use borrow.Author.Tests.{ne_eqb, ltb-true, ltb-false}

odd_finite : (d : ℕ) (s : Bool) (q k l : ℕ) → finite (odd d s q k l) ≡ true
unfolding odd
odd_finite d s zero k l = refl
odd_finite d s (suc q) k l = refl

-- an exponent of all ones, and another
all_ones : (s : Bool) (t : ℕ) → finite (of_fields binary32 s 255 t) ≡ false
unfolding of_fields
all_ones s t = go (eqb t 0)
  where
    go : (b : Bool) → finite (cond b (inf s) nan) ≡ false
    go true = refl
    go false = refl

fewer : (s : Bool) (x t : ℕ) → x < 255 → finite (of_fields binary32 s x t) ≡ true
unfolding of_fields
fewer s zero t h = odd_finite 24 s t 0 149
fewer s (suc x) t h = rw (ne_eqb (suc x) 255 (λ e. omega arith)) (odd_finite 24 s (8388608 + t) x 149)

module _ (raw : ℕ) where
  not_finite : 0x7F80_0000 ≤ bit_and raw 0x7FFF_FFFF → finite (of_bits binary32 raw) ≡ false
  unfolding of_bits
  not_finite h =
      let m : 0x7F80_0000 ≤ raw % 0x8000_0000 = subst (λ (n : ℕ). 0x7F80_0000 ≤ n) (and_mask raw 31) h in
      let e : raw % 0x8000_0000 / 0x80_0000 ≡ 255 = omega arith in
      rw e (all_ones (leb (top binary32) raw) (raw % hid binary32))

  is_finite : bit_and raw 0x7FFF_FFFF < 0x7F80_0000 → finite (of_bits binary32 raw) ≡ true
  unfolding of_bits
  is_finite h =
      let m : raw % 0x8000_0000 < 0x7F80_0000 = subst (λ (n : ℕ). n < 0x7F80_0000) (and_mask raw 31) h in
      let n : raw % 0x8000_0000 / 0x80_0000 < 255 = omega arith in
      fewer (leb (top binary32) raw) (raw % 0x8000_0000 / 0x80_0000) (raw % hid binary32) n

  -- the code's test
  pub finite_test : ltb (bit_and raw 0x7FFF_FFFF) 0x7F80_0000 ≡ finite (of_bits binary32 raw)
  finite_test = go (ltb (bit_and raw 0x7FFF_FFFF) 0x7F80_0000) refl
    where
      go : (b : Bool) → ltb (bit_and raw 0x7FFF_FFFF) 0x7F80_0000 ≡ b → b ≡ finite (of_bits binary32 raw)
      go true e = sym (is_finite (ltb-true _ _ e))
      go false e = sym (not_finite (ltb-false _ _ e))

-- a finite one is a number
not_nan : (x : Float) → finite x ≡ true → is_nan x ≡ false
unfolding is_nan
not_nan nan e = sym e
not_nan (inf s) e = refl
not_nan (fin s m d) e = refl

pub finite_number : (raw : ℕ) → finite (of_bits binary32 raw) ≡ true → T (not (nan_bits binary32 raw))
finite_number raw h = rw (nan_bits_is binary32 raw, not_nan (of_bits binary32 raw) h) tt
