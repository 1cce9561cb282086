-- A row of the table of docs/FIELDS.md: the ranges of its indices, the blocks that it stands in, and its text with two indices.
use Rattle.std.specs.Prelude.{ℕ, ◌+◌, ◌*◌, ◌%◌, List, [], ◌∷◌, ◌++◌, Bool, ◌&&◌, ◌||◌, eqb, leb, get_or}
use Prim.Native.Char.{code}
use Rattle.rules.specs.Rule.{pick}
use Rattle.text.specs.Text.{digit, decimal}

-- the four digits in the columns from `k` on; a blank counts as 0
abbrev pub digit_at : List ℕ → ℕ → ℕ
digit_at r k = get_or r k 0 % 16

abbrev pub number_at : List ℕ → ℕ → ℕ
number_at r k = 1000 * digit_at r k + 100 * digit_at r (k + 1) + 10 * digit_at r (k + 2) + digit_at r (k + 3)

-- the greatest values of the two indices of a row, and whether two indices are in these ranges
abbrev pub greatest_first : List ℕ → ℕ
greatest_first r = number_at r 46

abbrev pub greatest_second : List ℕ → ℕ
greatest_second r = number_at r 51

unfoldable pub in_range : List ℕ → ℕ → ℕ → Bool
in_range r i j = leb i (greatest_first r) && leb j (greatest_second r)

-- whether a leaf stands in a block
unfoldable pub stands_in : List ℕ → ℕ → Bool
stands_in r block = eqb (get_or r 56 0) (digit block) || (eqb (get_or r 57 0) (digit block) || eqb (get_or r 58 0) (digit block))

-- a character of a row, and after `[` an index
unfoldable pub character : ℕ → ℕ → List ℕ
character c i = c ∷ pick (eqb c (code "[")) (decimal i) []

-- the text of a row, which ends at a blank: `i` is its first index, and `j` the next
unfoldable pub indexed : List ℕ → ℕ → ℕ → List ℕ
indexed [] i j = []
indexed (c ∷ cs) i j = pick (eqb c (code " ")) [] (character c i ++ indexed cs (pick (eqb c (code "[")) j i) j)
