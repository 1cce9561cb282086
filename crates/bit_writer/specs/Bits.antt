-- Bits as lists, the most significant first: those of a number, and those of bytes.
use Rattle.std.specs.Prelude.{ℕ, zero, suc, ◌+◌, ◌-◌, ◌*◌, ◌/◌, ◌%◌, ◌^◌, ◌≡◌, List, [], ◌∷◌, ◌++◌, length, drop}
use Rattle.bits.specs.Bits.{bit_at}

-- the w low bits of a number
unfoldable pub bits_of : ℕ → ℕ → List ℕ
bits_of zero v = []
bits_of (suc w) v = v / 2 ^ w % 2 ∷ bits_of w v

-- the n bits of bytes from bit p on
unfoldable pub bits_from : List ℕ → ℕ → ℕ → List ℕ
bits_from bytes p zero = []
bits_from bytes p (suc n) = bit_at bytes p ∷ bits_from bytes (p + 1) n

unfoldable pub zeros : ℕ → List ℕ
zeros zero = []
zeros (suc n) = 0 ∷ zeros n

-- how many bytes so many bits take
abbrev pub bytes_for : ℕ → ℕ
bytes_for n = (n + 7) / 8

-- Bits written from the first bit of bytes on: they stand there, the bits left in their last byte are 0, and the bytes after it are
-- as they were before.
pub record Stand (bits before after : List ℕ) : Type 0 where
  pub long : length after ≡ length before
  pub stand : let n = length bits in bits_from after 0 (8 * bytes_for n) ≡ bits ++ zeros (8 * bytes_for n - n)
  pub others : let n = length bits in drop (bytes_for n) after ≡ drop (bytes_for n) before
