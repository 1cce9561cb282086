-- The tables of a compression configuration. The names of a table begin with the word `q`.
use Rattle.std.specs.Prelude.{ℕ, ◌+◌, ◌*◌, ◌^◌, [], ◌∷◌, leb, eqb}
use Rattle.rules.specs.Name.{third}
use Rattle.rules.specs.Block as block
use Rattle.rules.specs.Leaf as leaf
use Rattle.rules.specs.Rule.{Rule, done, refused, ◌>>=◌, ◌>>◌, pick}
use Rattle.rules.specs.Derived.{take, escaped, repeat, demand, count}
use Rattle.probability.specs.Probability.{probabilities}

-- codeword `j` of the table whose names begin with `q`
unfoldable pub codeword : ℕ → ℕ → Rule (Unit {0})
codeword q j = do
  w ← escaped (q + leaf.code_width_minus_one + third * j) (5 ∷ 8 ∷ 16 ∷ [])
  demand (leb (w + 1) 64) (refused 21)
  take (q + leaf.code + third * j) (w + 1)
  done tt

-- `1 << w` entries: codewords if the type is 3, else probabilities
unfoldable pub entries : ℕ → ℕ → ℕ → Rule (Unit {0})
entries kind q w = pick (eqb kind 3) (repeat (codeword q) (2 ^ w)) (probabilities q (2 ^ w))

-- table `i`
unfoldable pub table : ℕ → ℕ → Rule (Unit {0})
table kind i = do
  w ← escaped (block.tables i + leaf.symbol_width_minus_one) (5 ∷ 8 ∷ 16 ∷ [])
  demand (leb (w + 1) 12) (refused 20)
  entries kind (block.tables i) (w + 1)

unfoldable pub table_count : Rule ℕ
table_count = do
  n ← escaped (block.compression + leaf.table_count_minus_one) (3 ∷ 8 ∷ 16 ∷ [])
  count (n + 1) 5

unfoldable pub tables : ℕ → Rule (Unit {0})
tables kind = do
  n ← table_count
  repeat (table kind) n
