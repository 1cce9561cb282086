-- How long a line can be, and what a line is that was put.
use Prim.Native.Nat.{ℕ, ◌+◌, ◌≤◌}
use Prim.Native.String.{String}
use mathlib.Core.Path.{◌≡◌}
use mathlib.Core.List.{List, [], ◌∷◌, ◌++◌}
use native.Mathlib.Omega.{arith}
use lib.ListN.{length, length-append, take}
use Rattle.text.specs.Text.{ascii, decimal, line, Put, Lined}
use Rattle.text.proofs.Decimal.{decimal_most}
use Rattle.text.proofs.Puts.{put_long, put_front, put_none}

-- a text, and one after it
pub both_most : (a b : List ℕ) {m n : ℕ} → length a ≤ m → length b ≤ n → length (a ++ b) ≤ m + n
both_most a b h k = let e = length-append a b in omega arith

-- a word of at most `m` letters, and a number
pub number_most : (word : List ℕ) (n : ℕ) {m : ℕ} → length word ≤ m → length (word ++ decimal n) ≤ m + 20
number_most word n h = both_most word (decimal n) h (decimal_most n)

-- a line is no longer than its words and 20 digits for each number
unfoldable pub widest : List (String × ℕ) → ℕ
widest [] = 1
widest (x ∷ xs) = length (ascii x.0) + 20 + widest xs

pub line_most : (xs : List (String × ℕ)) → length (line xs) ≤ widest xs
unfolding line widest
line_most [] = omega arith
line_most (x ∷ xs) =
    let word = ascii x.0 in
    let a = length-append (word ++ decimal x.1) (line xs) in
    let b = length-append word (decimal x.1) in
    let c = decimal_most x.1 in
    let d = line_most xs in
    omega arith

-- What was put is a line, with room for it; no line needs none.
pub lined : {before text : List ℕ} {to : ℕ} {after : List ℕ} → length text ≤ 256 → length before ≡ 256 → Put before 0 text to after → Lined before text to after
lined most long p = record { put = p; room = omega (arith, p.place, put_long p) }

pub no_line : {before : List ℕ} → Lined before [] 0 before
no_line = record { put = put_none; room = omega arith }

-- It stands at the beginning of the bytes.
pub line_front : {before text : List ℕ} {to : ℕ} {after : List ℕ} → Lined before text to after → take to after ≡ text
line_front l = put_front l.put (omega (arith, l.room, l.put.place, put_long l.put))
