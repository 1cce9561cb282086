-- What a test of every row tells.
use Prim.Native.Nat.{ℕ, zero, suc, ◌+◌, ◌<◌, ◌≤◌}
use Prim.Native.String.{String}
use mathlib.Core.Path.{◌≡◌, refl, ap}
use mathlib.Core.List.{List, [], ◌∷◌}
use mathlib.Core.Bool.{Bool, true, false, ◌&&◌}
use native.Mathlib.Omega.{arith}
use native.Mathlib.Nat.{add-zero}
use borrow.Author.Tests.{leb-true, leb-false}
use lib.Dec.{eqb, leb}
use lib.ListN.{length, get_or, get_or-eq_default}
use Rattle.rules.specs.Rule.{pick}
use Rattle.rules.proofs.Laws.{both}
use Rattle.text.specs.Text.{ascii}
use Rattle.text.specs.Table.{row}

-- a test that every row of a table passes with its number, counted from `i`, computed over the whole table
abbrev pub every : (ℕ → List ℕ → Bool) → ℕ → List String → Bool
every f i [] = true
every f i (s ∷ ss) = f i (ascii s) && every f (suc i) ss

at_place : (f : ℕ → List ℕ → Bool) (i : ℕ) (table : List String) (n : ℕ) (d : String) → every f i table ≡ true → n < length table →
    f (i + n) (ascii (get_or table n d)) ≡ true
at_place f i [] n d t h = absurd (omega arith)
at_place f i (s ∷ ss) zero d t h = rw (add-zero i) (both (f i (ascii s)) t).0
at_place f i (s ∷ ss) (suc n) d t h =
    let e : i + suc n ≡ suc i + n = omega arith in
    rw e (at_place f (suc i) ss n d (both (f i (ascii s)) t).1 (omega arith))

-- so each row passes it
pub at_number : (f : ℕ → List ℕ → Bool) (table : List String) (n : ℕ) → every f 0 table ≡ true → n < length table → f n (row table n) ≡ true
unfolding row
at_number f table n t h = let e : 0 + n ≡ n = omega arith in rw e at (at_place f 0 table n (get_or table 0 "") t h)

-- past the last row there is row 0
pub row_past : (table : List String) (n : ℕ) → length table ≤ n → row table n ≡ ascii (get_or table 0 "")
unfolding row
row_past table n h = ap ascii (get_or-eq_default table (get_or table 0 "") h)

-- and if its number doesn't matter, so does what the table gives for any number
pub at_row : (f : List ℕ → Bool) (table : List String) (n : ℕ) → every (λ _. f) 0 table ≡ true → 0 < length table → f (row table n) ≡ true
unfolding row
at_row f table n t some = go (leb (suc n) (length table)) refl
  where
    go : (b : Bool) → leb (suc n) (length table) ≡ b → f (row table n) ≡ true
    go true e = at_place (λ _. f) 0 table n _ t (leb-true (suc n) (length table) e)
    go false e = rw (row_past table n (let z = leb-false (suc n) (length table) e in omega arith)) (at_place (λ _. f) 0 table 0 "" t some)

-- the number of the last row that passes a test, or `found`
abbrev pub last_row : (List ℕ → Bool) → ℕ → ℕ → List String → ℕ
last_row f n found [] = found
last_row f n found (s ∷ ss) = last_row f (suc n) (pick (f (ascii s)) n found) ss

-- a row of 59 bytes
abbrev pub wide : List ℕ → Bool
wide r = eqb (length r) 59
