-- The value of bits of a list of bytes, most significant bit first. A bit past the end is 0.
use Rattle.std.specs.Prelude.{ℕ, zero, suc, ◌+◌, ◌-◌, ◌*◌, ◌/◌, ◌%◌, ◌^◌, List, get_or}

-- bit p of the bytes: bit 0 is the most significant of byte 0
unfoldable pub bit_at : List ℕ → ℕ → ℕ
bit_at bytes p = get_or bytes (p / 8) 0 / 2 ^ (7 - p % 8) % 2

-- the value of w bits from p on: shifted left once for each bit
unfoldable pub bits_at : List ℕ → ℕ → ℕ → ℕ
bits_at bytes p zero = 0
bits_at bytes p (suc w) = bits_at bytes p w * 2 + bit_at bytes (p + w)
