-- A number read byte by byte.
use Prim.Native.Nat.{ℕ, ◌+◌, ◌*◌, ◌%◌, ◌^◌, ◌<◌}
use mathlib.Core.Path.{◌≡◌, refl, ◌∙◌}
use mathlib.Core.List.{List}
use native.Mathlib.Omega.{arith}
use lib.ListN.{length, take, get_or}
use Rattle.std.specs.Prelude.{bit_or}
use Rattle.std.proofs.lemmas.Nat.{or_shifted}
use Rattle.std.proofs.lemmas.List.{take_more}
use Rattle.std.proofs.lemmas.List.Sums.{fold_push}
use Rattle.record.specs.Record.{with_byte, big_endian}

-- a byte stands in the bits that a shift leaves free
or_byte : (n b : ℕ) → b < 256 → bit_or ((n * 256) % 2 ^ 64) b ≡ with_byte n b
or_byte n b h =
    let shifted : (n * 256) % 2 ^ 64 ≡ (n % 2 ^ 56) * 2 ^ 8 = omega arith in
    rw shifted (or_shifted (n % 2 ^ 56) 8 b h)

-- one byte more is read
pub number_more : (bytes : List ℕ) (i n : ℕ) → i < length bytes → get_or bytes i 0 < 256 → n ≡ big_endian (take i bytes) → bit_or ((n * 256) % 2 ^ 64) (get_or bytes i 0) ≡ big_endian (take (i + 1) bytes)
unfolding big_endian
number_more bytes i n inside h e = or_byte n (get_or bytes i 0) h ∙ rw (take_more bytes i 0 inside, fold_push with_byte 0 (take i bytes) (get_or bytes i 0), e) refl
