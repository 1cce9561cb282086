-- A table of texts: a row for each number from 0 on.
use Rattle.std.specs.Prelude.{ℕ, List, [], ◌∷◌, get_or}
use Rattle.std.specs.Borrow.{Bor}
use Prim.Native.String.{String}
use Rattle.text.specs.Text.{ascii}

-- the row of a number, row 0 if the table has none
unfoldable pub row : List String → ℕ → List ℕ
row table n = ascii (get_or table n (get_or table 0 ""))

-- the texts that a list of slices has
abbrev pub texts : List (Bor (List ℕ)) → List (List ℕ)
texts [] = []
texts (t ∷ ts) = t.now ∷ texts ts
