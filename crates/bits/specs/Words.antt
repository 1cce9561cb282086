-- Eight bytes as one word, as the private functions of this crate speak of it; what `read` promises hangs on none of it.
use Rattle.std.specs.Prelude.{ℕ, zero, suc, ◌+◌, ◌*◌, ◌/◌, ◌%◌, ◌^◌, List}
use Rattle.bits.specs.Bits.{bits_at}

-- n bytes from byte q on, the first of them lowest
unfoldable pub lowest_first : List ℕ → ℕ → ℕ → ℕ
lowest_first bytes q zero = 0
lowest_first bytes q (suc n) = lowest_first bytes (suc q) n * 2 ^ 8 + bits_at bytes (8 * q) 8

-- the n lowest bytes of a word in the other order, the lowest of them first
unfoldable pub swapped : ℕ → ℕ → ℕ
swapped zero word = 0
swapped (suc n) word = word % 2 ^ 8 * 2 ^ (8 * n) + swapped n (word / 2 ^ 8)
