-- A recorded field is read back as it was.
use Prim.Native.Nat.{ℕ, ◌+◌, ◌*◌, ◌≤◌}
use mathlib.Core.Path.{◌≡◌, refl, ◌∙◌}
use mathlib.Core.List.{List, ◌∷◌, ◌++◌, append_assoc}
use mathlib.Core.Bool.{true, false}
use native.Mathlib.Omega.{arith}
use native.Mathlib.Nat.{add-zero}
use borrow.Author.Tests.{le-leb}
use lib.ListN.{length, get_or, take, drop, length-append}
use lib.Seq.{get_or-append-add, length-take-le}
use Rattle.std.specs.Prelude.{Some}
use Rattle.rules.specs.declared.Field.{Field}
use Rattle.rules.specs.declared.FieldValue.{FieldValue}
use Rattle.rules.specs.declared.FieldValue.TheVariants.{Flag, Number, Bits, Bytes}
use Rattle.rules.specs.Words.{kind_of, word_of, words_of, encoded, recorded, is_value, value_from, field_at}
use Rattle.rules.proofs.Words.{encoded_append, encoded_length}
use Rattle.laws.proofs.Front.{recorded_front}

is_value_lem : (v : FieldValue) → is_value (kind_of v) (word_of v) ≡ true
is_value_lem (Flag true) = refl
is_value_lem (Flag false) = refl
is_value_lem (Number n) = refl
is_value_lem (Bits n) = refl
is_value_lem (Bytes n) = refl

value_back : (v : FieldValue) → value_from (kind_of v) (word_of v) ≡ v
value_back (Flag true) = refl
value_back (Flag false) = refl
value_back (Number n) = refl
value_back (Bits n) = refl
value_back (Bytes n) = refl

-- the field in the middle of words
field_in : (xs ys : List ℕ) (f : Field) (i : ℕ) → length xs ≡ 5 * i → field_at (xs ++ (words_of f ++ ys)) i ≡ Some f
unfolding field_at
field_in xs ys f i h =
    let at : (j : ℕ) → get_or (xs ++ (words_of f ++ ys)) (5 * i + j) 0 ≡ get_or (words_of f ++ ys) j 0 = (λ j. rw (← h) (get_or-append-add xs _ j 0)) in
    let first : get_or (xs ++ (words_of f ++ ys)) (5 * i) 0 ≡ f.bit_offset = rw add-zero at (at 0) in
    let room : 5 * i + 5 ≤ length (xs ++ (words_of f ++ ys)) = omega (arith, length-append xs (words_of f ++ ys)) in
    rw (le-leb _ _ room, first, at 1, at 2, at 3, at 4, is_value_lem f.value, value_back f.value)

pub field_back : (ws : List ℕ) (n : ℕ) (fs : List Field) (f : Field) (gs : List Field) → 5 * (n + length (fs ++ f ∷ gs)) ≤ length ws →
    field_at (recorded true ws n (fs ++ f ∷ gs)) (n + length fs) ≡ Some f
unfolding encoded
field_back ws n fs f gs h =
    let xs : List ℕ = take (5 * n) ws ++ encoded fs in
    let ys : List ℕ = encoded gs ++ drop (5 * (n + length (fs ++ f ∷ gs))) ws in
    let front : recorded true ws n (fs ++ f ∷ gs) ≡ xs ++ (words_of f ++ ys) = recorded_front ws n (fs ++ f ∷ gs) h ∙ simp (encoded_append, append_assoc) in
    let few : 5 * n ≤ length ws = omega arith in
    let long : length xs ≡ 5 * (n + length fs) = simp (length-append, length-take-le, encoded_length) (omega arith) in
    rw front (field_in xs ys f (n + length fs) long)
