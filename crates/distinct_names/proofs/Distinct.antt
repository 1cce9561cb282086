-- Two known words have different texts.
use Prim.Native.Nat.{ℕ, ◌+◌, ◌*◌, ◌/◌, ◌^◌, ◌≤◌, ◌<◌}
use Prim.Native.String.{String}
use mathlib.Core.Path.{◌≡◌, refl, sym, ap, ap₂, ◌∙◌}
use mathlib.Core.List.{List, [], ◌∷◌, ◌++◌, append_assoc, append-nil}
use mathlib.Core.Bool.{Bool, true, false, ◌&&◌, ◌||◌}
use native.Mathlib.Omega.{arith}
use borrow.Author.Tests.{eqb-true, leb-true, leb-false, ne_eqb}
use lib.Dec.{eqb, leb}
use lib.ListN.{length, get_or, drop}
use Rattle.rules.specs.Name.{prefix, named}
use Rattle.rules.specs.Rule.{pick}
use Rattle.rules.proofs.Laws.{never, both}
use Rattle.text.specs.Text.{ascii}
use Rattle.text.specs.Table.{row}
use Rattle.text.proofs.Rows.{every, at_row, at_number, row_past, last_row}
use Rattle.name_table.specs.Table.{blocks, leaves, leaf_of, block_of, first_of, second_of, third_of, fourth_of, block_row, leaf_row}
use Rattle.name_row.specs.Row.{number_at, greatest_first, greatest_second, in_range, stands_in, indexed}
use Rattle.name_words.specs.NameText.{known, block_text, leaf_text, name_text}
use Rattle.distinct_names.proofs.Forms.{up_to_blank, closed, form, form_indexed, places, same_indices}

or_elim : {P : Type 0} (a : Bool) {b : Bool} → (a || b) ≡ true → (a ≡ true → P) → (b ≡ true → P) → P
or_elim true h f g = f refl
or_elim false h f g = g h

-- Every row's text is closed, and an index for which it has no place is 0.
abbrev is_sound : List ℕ → Bool
is_sound r = closed false r && ((leb 1 (places r) || eqb (greatest_first r) 0) && (leb 2 (places r) || eqb (greatest_second r) 0))

blocks_sound : every (λ _. is_sound) 0 blocks ≡ true
unfolding blocks ascii
blocks_sound = refl

leaves_sound : every (λ _. is_sound) 0 leaves ≡ true
unfolding leaves ascii
leaves_sound = refl

abbrev begins_with : List ℕ → List ℕ → Bool
begins_with xs [] = true
begins_with [] (y ∷ ys) = false
begins_with (x ∷ xs) (y ∷ ys) = eqb x y && begins_with xs ys

-- the leaf of a block that has a text; and the block of a whole text, which is the last that the text begins with
leaf_in : ℕ → List ℕ → ℕ
unfolding leaves ascii stands_in
leaf_in b text = last_row (λ r. stands_in r b && begins_with (up_to_blank r ++ (32 ∷ [])) (text ++ (32 ∷ []))) 0 0 leaves

whole : List ℕ → List ℕ → List ℕ
whole block leaf = up_to_blank block ++ (46 ∷ up_to_blank leaf)

block_in : List ℕ → ℕ
unfolding blocks ascii
block_in text = last_row (λ r. begins_with text (up_to_blank r ++ (46 ∷ []))) 0 0 blocks

-- Both have their numbers back.
abbrev is_told : ℕ → List ℕ → ℕ → List ℕ → Bool
is_told b block l leaf = pick (stands_in leaf b) (eqb (block_in (whole block leaf)) b && eqb (leaf_in b (up_to_blank leaf)) l) true

all_told : every (λ b block. every (is_told b block) 0 leaves) 0 blocks ≡ true
unfolding block_in leaf_in whole leaves blocks ascii stands_in
all_told = refl

-- A leaf stands in blocks 1 to 9 only, and the empty row in none.
abbrev is_block : List ℕ → Bool
is_block r = leb (get_or r 56 0) 57 && (leb (get_or r 57 0) 57 && leb (get_or r 58 0) 57)

leaves_blocks : every (λ _. is_block) 0 leaves ≡ true
unfolding leaves ascii
leaves_blocks = refl

at_most_nine : (c b : ℕ) → leb c 57 ≡ true → eqb c (48 + b) ≡ true → b < 10
at_most_nine c b t e = let a = leb-true c 57 t in let f = eqb-true c (48 + b) e in omega arith

block_number : (r : List ℕ) (b : ℕ) → is_block r ≡ true → stands_in r b ≡ true → b < 10
unfolding stands_in
block_number r b t s =
    let u = both (leb (get_or r 56 0) 57) t in
    let v = both (leb (get_or r 57 0) 57) u.1 in
    or_elim (eqb (get_or r 56 0) (48 + b)) s
    (at_most_nine (get_or r 56 0) b u.0)
    (λ s. or_elim (eqb (get_or r 57 0) (48 + b)) s (at_most_nine (get_or r 57 0) b v.0) (at_most_nine (get_or r 58 0) b v.1))

no_block : (b : ℕ) → stands_in (ascii (get_or leaves 0 "")) b ≡ false
unfolding stands_in leaves ascii
no_block b = rw (ne_eqb 32 (48 + b) (omega arith))

leaf_number : (l b : ℕ) → stands_in (row leaves l) b ≡ true → l < length leaves
leaf_number l b s = go (leb (length leaves) l) refl
  where
    go : (past : Bool) → leb (length leaves) l ≡ past → l < length leaves
    go true e = never s (rw (row_past leaves l (leb-true (length leaves) l e)) (no_block b))
    go false e = leb-false (length leaves) l e

-- The block and the leaf of a known word, had back from its text without the digits.
record Template (w : ℕ) : Type 0 where
  form_is : form false (name_text w) ≡ whole (block_row w) (leaf_row w)
  block_is : block_in (whole (block_row w) (leaf_row w)) ≡ block_of w
  leaf_is : leaf_in (block_of w) (up_to_blank (leaf_row w)) ≡ leaf_of w

sound : (table : List String) (n : ℕ) → every (λ _. is_sound) 0 table ≡ true → 0 < length table → closed false (row table n) ≡ true
sound table n t some = (both (closed false (row table n)) (at_row is_sound table n t some)).0

name_form : (w : ℕ) → form false (name_text w) ≡ whole (block_row w) (leaf_row w)
unfolding name_text block_text leaf_text whole blocks leaves
name_form w =
    let leaf = form_indexed (leaf_row w) false (third_of w) (fourth_of w) [] (sound leaves (leaf_of w) leaves_sound (omega arith)) in
    ap (form false) (append_assoc (indexed (block_row w) (first_of w) (second_of w)) (46 ∷ []) (leaf_text w))
    ∙ form_indexed (block_row w) false (first_of w) (second_of w) (46 ∷ leaf_text w) (sound blocks (block_of w) blocks_sound (omega arith))
    ∙ ap (λ (l : List ℕ). up_to_blank (block_row w) ++ (46 ∷ l)) (simp append-nil at leaf)

template : (w : ℕ) → known w ≡ true → Template w
unfolding known blocks leaves
template w k =
    let stands = (both (stands_in (leaf_row w) (block_of w)) k).0 in
    let l = leaf_number (leaf_of w) (block_of w) stands in
    let b = block_number (leaf_row w) (block_of w) (at_row is_block leaves (leaf_of w) leaves_blocks (omega arith)) stands in
    let in_block = at_number (λ b block. every (is_told b block) 0 leaves) blocks (block_of w) all_told b in
    let told = rw stands at (at_number (is_told (block_of w) (block_row w)) leaves (leaf_of w) in_block l) in
    let numbers = both (eqb (block_in (whole (block_row w) (leaf_row w))) (block_of w)) told in
    record {
      form_is = name_form w;
      block_is = eqb-true _ _ numbers.0;
      leaf_is = eqb-true _ _ numbers.1;
    }

-- Indices in the ranges of a row that its text tells, or that it has no place for.
index_same : (n g i k : ℕ) (place : ℕ) → (leb place n || eqb g 0) ≡ true → leb i g ≡ true → leb k g ≡ true → (place ≤ n → i ≡ k) → i ≡ k
index_same n g i k place t hi hk told =
    let a = leb-true i g hi in
    let b = leb-true k g hk in
    or_elim (leb place n) t (λ e. told (leb-true place n e)) (λ e. let z = eqb-true g 0 e in omega arith)

indices_same : (r : List ℕ) (i j k l : ℕ) (x y : List ℕ) → is_sound r ≡ true → in_range r i j ≡ true → in_range r k l ≡ true → indexed r i j ++ x ≡ indexed r k l ++ y →
    (i ≡ k) × (j ≡ l) × (x ≡ y)
unfolding in_range
indices_same r i j k l x y t u v e =
    let is-closed = both (closed false r) t in
    let empty = both (leb 1 (places r) || eqb (greatest_first r) 0) is-closed.1 in
    let a = both (leb i (greatest_first r)) u in
    let b = both (leb k (greatest_first r)) v in
    let small : (n k : ℕ) → leb n (number_at r k) ≡ true → n < 2 ^ 64 = λ n k h. let z = leb-true n (number_at r k) h in omega arith in
    let same = same_indices r false i j k l x y is-closed.0 (small i 46 a.0) (small j 51 a.1) (small k 46 b.0) (small l 51 b.1) e in (
      index_same (places r) (greatest_first r) i k 1 empty.0 a.0 b.0 same.first,
      index_same (places r) (greatest_second r) j l 2 empty.1 a.1 b.1 same.second,
      same.rest,
    )

-- what follows the same list is the same
cancel : (a x y : List ℕ) → a ++ x ≡ a ++ y → x ≡ y
cancel [] x y e = e
cancel (c ∷ a) x y e = cancel a x y (ap (drop 1) e)

-- the text of a word as its two rows give it
name_parts : (w : ℕ) → name_text w ≡ indexed (block_row w) (first_of w) (second_of w) ++ (46 ∷ (indexed (leaf_row w) (third_of w) (fourth_of w) ++ []))
unfolding name_text block_text leaf_text
name_parts w = append_assoc (indexed (block_row w) (first_of w) (second_of w)) (46 ∷ []) (leaf_text w) ∙ simp append-nil

-- a word is made of its parts, each the remainder of what is left of it
assembled : (w q r s t a b c d e f : ℕ) → w ≡ a + 256 * q → q ≡ b + 16 * r → r ≡ c + 8192 * s → s ≡ d + 8192 * t → t ≡ e + 8192 * f →
    named (prefix b c d) a e f ≡ w
assembled w q r s t a b c d e f g h i j k = omega arith

left : (w : ℕ) → (w / 256 ≡ block_of w + 16 * (w / 2 ^ 12)) × (w / 2 ^ 12 ≡ first_of w + 8192 * (w / 2 ^ 25))
left w = (omega arith, omega arith)

left_further : (w : ℕ) → (w / 2 ^ 25 ≡ second_of w + 8192 * (w / 2 ^ 38)) × (w / 2 ^ 38 ≡ third_of w + 8192 * fourth_of w)
left_further w = (omega arith, omega arith)

word_is : (w : ℕ) → named (prefix (block_of w) (first_of w) (second_of w)) (leaf_of w) (third_of w) (fourth_of w) ≡ w
word_is w =
    assembled w (w / 256) (w / 2 ^ 12) (w / 2 ^ 25) (w / 2 ^ 38) (leaf_of w) (block_of w) (first_of w) (second_of w) (third_of w) (fourth_of w)
    (omega arith)
    (left w).0
    (left w).1
    (left_further w).0
    (left_further w).1

word_same : (v w : ℕ) → leaf_of v ≡ leaf_of w → block_of v ≡ block_of w → first_of v ≡ first_of w → second_of v ≡ second_of w → third_of v ≡ third_of w →
    fourth_of v ≡ fourth_of w → v ≡ w
word_same v w a b c d e f = sym (word_is v) ∙ rw (a, b, c, d, e, f) (word_is w)

-- the indices of two words of one template
pub distinct_names : (v w : ℕ) → known v ≡ true → known w ≡ true → name_text v ≡ name_text w → v ≡ w
unfolding known whole blocks leaves
distinct_names v w kv kw e =
    let forms = sym (template v kv).form_is ∙ ap (form false) e ∙ (template w kw).form_is in
    let block = sym (template v kv).block_is ∙ ap block_in forms ∙ (template w kw).block_is in
    let leaf-text = ap (drop 1) (cancel (up_to_blank (block_row w)) _ _ (rw block at forms)) in
    let leaf = sym (template v kv).leaf_is ∙ ap₂ leaf_in block leaf-text ∙ (template w kw).leaf_is in
    let in-v = (both (stands_in (leaf_row v) (block_of v)) kv).1 in
    let in-w = (both (stands_in (leaf_row w) (block_of w)) kw).1 in
    let ranges-v = both (in_range (block_row v) (first_of v) (second_of v)) in-v in
    let ranges-w = both (in_range (block_row w) (first_of w) (second_of w)) in-w in
    let parts = rw (block, leaf) at (sym (name_parts v) ∙ e ∙ name_parts w) in
    let of-block = indices_same (block_row w) (first_of v) (second_of v) (first_of w) (second_of w) _ _ (at_row is_sound blocks (block_of w) blocks_sound (omega arith)) (rw block at ranges-v.0) ranges-w.0 parts in
    let of-leaf = indices_same (leaf_row w) (third_of v) (fourth_of v) (third_of w) (fourth_of w) [] [] (at_row is_sound leaves (leaf_of w) leaves_sound (omega arith)) (rw leaf at ranges-v.1) ranges-w.1 (ap (drop 1) of-block.2) in
    word_same v w leaf block of-block.0 of-block.1 of-leaf.0 of-leaf.1
