-- No text is longer than 128 bytes.
use Prim.Native.Nat.{ℕ, ◌+◌, ◌≤◌, ◌<◌, ◌^◌}
use mathlib.Core.Path.{◌≡◌, refl}
use mathlib.Core.List.{List, [], ◌∷◌, ◌++◌}
use mathlib.Core.Bool.{Bool, true, false}
use native.Mathlib.Omega.{arith}
use borrow.Author.Tests.{leb-true}
use lib.Dec.{eqb, leb}
use lib.ListN.{length, length-append}
use Rattle.rules.specs.Rule.{pick}
use Rattle.rules.proofs.Laws.{both}
use Rattle.text.specs.Text.{ascii, decimal}
use Rattle.text.proofs.Decimal.{decimal_short}
use Rattle.text.specs.Table.{row}
use Rattle.text.proofs.Rows.{every, at_row}
use Rattle.name_table.specs.Table.{blocks, leaves, leaf_of, block_of, first_of, second_of, third_of, fourth_of, block_row, leaf_row}
use Rattle.name_row.specs.Row.{greatest_first, greatest_second, in_range, stands_in, character, indexed}
use Rattle.name_words.specs.NameText.{known, block_text, leaf_text, name_text}

-- how long the text of a row can be, an index having at most four digits
abbrev longest : List ℕ → ℕ
longest [] = 0
longest (c ∷ cs) = pick (eqb c 32) 0 (pick (eqb c 91) 5 1 + longest cs)

character_length : (c i : ℕ) → i < 10000 → length (character c i) ≤ pick (eqb c 91) 5 1
unfolding character
character_length c i h = go (eqb c 91)
  where
    go : (b : Bool) → length (c ∷ pick b (decimal i) []) ≤ pick b 5 1
    go true = let d = decimal_short 3 i h in omega arith
    go false = omega arith

next_small : (b : Bool) {i j : ℕ} → i < 10000 → j < 10000 → pick b j i < 10000
next_small true h k = k
next_small false h k = h

indexed_length : (r : List ℕ) (i j : ℕ) → i < 10000 → j < 10000 → length (indexed r i j) ≤ longest r
unfolding indexed
indexed_length [] i j h k = omega arith
indexed_length (c ∷ cs) i j h k = go (eqb c 32) (indexed_length cs (pick (eqb c 91) j i) j (next_small (eqb c 91) h k) k)
  where
    go : (b : Bool) → length (indexed cs (pick (eqb c 91) j i) j) ≤ longest cs →
        length (pick b [] (character c i ++ indexed cs (pick (eqb c 91) j i) j)) ≤ pick b 0 (pick (eqb c 91) 5 1 + longest cs)
    go true s = omega arith
    go false s =
        let a = character_length c i h in
        rw (length-append (character c i) (indexed cs (pick (eqb c 91) j i) j)) (omega arith)

-- every row's text has at most 60
abbrev is_short : List ℕ → Bool
is_short r = leb (longest r) 60

blocks_short : every (λ _. is_short) 0 blocks ≡ true
unfolding blocks ascii
blocks_short = refl

leaves_short : every (λ _. is_short) 0 leaves ≡ true
unfolding leaves ascii
leaves_short = refl

row_short : (table : List _) (n i j : ℕ) → every (λ _. is_short) 0 table ≡ true → 0 < length table → i < 10000 → j < 10000 → length (indexed (row table n) i j) ≤ 60
row_short table n i j t some h k =
    let a = indexed_length (row table n) i j h k in
    let b = leb-true (longest (row table n)) 60 (at_row is_short table n t some) in
    omega arith

pub name_short : (w : ℕ) → w < 2 ^ 64 → length (name_text w) ≤ 128
unfolding name_text block_text leaf_text blocks leaves
name_short w h =
    let b = row_short blocks (block_of w) (first_of w) (second_of w) blocks_short (omega arith) (omega arith) (omega arith) in
    let l = row_short leaves (leaf_of w) (third_of w) (fourth_of w) leaves_short (omega arith) (omega arith) (omega arith) in
    rw (length-append (block_text w) (leaf_text w), length-append (indexed (block_row w) (first_of w) (second_of w)) (46 ∷ [])) (omega arith)

-- A word has room for every fourth index of the table, so a known word has at most 64 bits.
abbrev is_within : List ℕ → Bool
is_within r = leb (greatest_second r) 8191

leaves_within : every (λ _. is_within) 0 leaves ≡ true
unfolding leaves ascii
leaves_within = refl

pub known_small : (w : ℕ) → known w ≡ true → w < 2 ^ 64
unfolding known in_range leaves
known_small w k =
    let ranges = (both (stands_in (leaf_row w) (block_of w)) k).1 in
    let of-leaf = (both (in_range (block_row w) (first_of w) (second_of w)) ranges).1 in
    let fourth = leb-true (fourth_of w) (greatest_second (leaf_row w)) (both (leb (third_of w) (greatest_first (leaf_row w))) of-leaf).1 in
    let within = leb-true (greatest_second (leaf_row w)) 8191 (at_row is_within leaves (leaf_of w) leaves_within (omega arith)) in
    omega arith
