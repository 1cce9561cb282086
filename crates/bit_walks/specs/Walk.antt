-- What a walk in reads of 64 bits from bit 1 on comes to.
use Rattle.std.specs.Prelude.{ℕ, zero, suc, ◌+◌, ◌-◌, ◌*◌, ◌/◌, ◌%◌, ◌^◌, List, length, min}
use Rattle.bits.specs.Bits.{bits_at}

-- how many such reads so many bytes have whole, as far as a number of 64 bits can count their bits
abbrev pub reads_in : ℕ → ℕ
reads_in bytes = (min (bytes * 8) (2 ^ 64 - 1) - 1) / 64

-- the sum of the values of the first n, modulo 2^64
unfoldable pub sum_of : List ℕ → ℕ → ℕ
sum_of bytes zero = 0
sum_of bytes (suc n) = (sum_of bytes n + bits_at bytes (1 + 64 * n) 64) % 2 ^ 64

abbrev pub sum_of_reads : List ℕ → ℕ
sum_of_reads bytes = sum_of bytes (reads_in (length bytes))
