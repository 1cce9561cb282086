-- Name words: a template and up to four indices (docs/FIELDS.md). A template is a block, whose text has the first two
-- indices, and a leaf of it, whose text has the other two.
use Rattle.std.specs.Prelude.{ℕ, ◌+◌, ◌*◌, ◌^◌}

-- one more in the first and in the second index of a block
abbrev pub first : ℕ
first = 2 ^ 12

abbrev pub second : ℕ
second = 2 ^ 25

-- what the names of a block begin with: a reading is handed this word and adds its leaves
abbrev pub prefix : ℕ → ℕ → ℕ → ℕ
prefix block i j = 256 * block + first * i + second * j

-- one more in the first and in the second index of a leaf
abbrev pub third : ℕ
third = 2 ^ 38

abbrev pub fourth : ℕ
fourth = 2 ^ 51

-- a leaf of it
abbrev pub named : ℕ → ℕ → ℕ → ℕ → ℕ
named p leaf k m = p + leaf + third * k + fourth * m
