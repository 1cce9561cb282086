-- The number that a text is, digit by digit.
use Prim.Native.Nat.{ℕ, suc, ◌+◌, ◌-◌, ◌*◌, ◌/◌, ◌%◌, ◌^◌, ◌≤◌, ◌<◌}
use mathlib.Core.Path.{◌≡◌, refl, sym, ◌∙◌}
use mathlib.Core.List.{List, [], ◌∷◌}
use mathlib.Core.Bool.{true, false}
use native.Mathlib.Nat.{pow-suc, pow-le-pow_right}
use native.Mathlib.Numerals.{add-one}
use native.Mathlib.Omega.{arith}
use borrow.Author.Tests.{le-leb, lt-leb}
use lib.Dec.{lit<, ltb}
use lib.ListN.{length, length-append, get_or, drop, drop_of_length-le}
use lib.Seq.{drop-cons}
use Rattle.std.specs.Prelude.{Some, None}
use Rattle.rules.specs.Rule.{pick}
use Rattle.text.specs.Text.{digit, decimal_within, decimal, is_digit, value_after}
use Rattle.text.proofs.Decimal.{Digits, decimal_digits, decimal_short, decimal_value}
use Rattle.digits.specs.Digits.{all_digits, digits_number, number_in}

-- The first `k` characters of a text are digits, and the number `v`.
pub record Begun (text : List ℕ) (k v : ℕ) : Type 0 where
  pub inside : k ≤ length text
  pub small : v < 10 ^ k
  pub digits : all_digits text ≡ all_digits (drop k text)
  pub value : value_after 0 text ≡ value_after v (drop k text)

module _ (text : List ℕ) (k v : ℕ) where
  -- there is room for one character more after fewer than 18 digits
  pub room_more : length text ≤ 18 → k < length text → Begun text k v → 10 * v + 255 < 2 ^ 64
  room_more short h b = let most : 10 ^ k ≤ 10 ^ 17 = pow-le-pow_right {n = 10} (lit< tt) {i = k} {j = 17} (omega arith) in omega (arith, b.small)

  pub digit_more : k < length text → 48 ≤ get_or text k 0 → get_or text k 0 ≤ 57 → Begun text k v → Begun text (k + 1) (10 * v + (get_or text k 0 - 48))
  unfolding all_digits value_after
  digit_more h low high b =
      let c = get_or text k 0 in
      let power = pow-suc 10 k in
      let small : 10 * v + (c - 48) < 10 ^ suc k = omega (arith, b.small) in
      rw (add-one k) (record {
        inside = omega arith;
        small = small;
        digits = b.digits ∙ rw (drop-cons text k 0 h, le-leb 48 c low, le-leb c 57 high);
        value = b.value ∙ rw (drop-cons text k 0 h);
      })

  -- anything else makes it none
  no_digit : k < length text → is_digit (get_or text k 0) ≡ false → Begun text k v → None ≡ digits_number text
  unfolding all_digits digits_number
  no_digit h e b = let no : all_digits text ≡ false = b.digits ∙ rw (drop-cons text k 0 h, e) in rw no

  pub below : k < length text → get_or text k 0 < 48 → Begun text k v → None ≡ digits_number text
  below h low b = no_digit h (rw (lt-leb 48 (get_or text k 0) low)) b

  pub above : k < length text → 57 < get_or text k 0 → Begun text k v → None ≡ digits_number text
  above h high b = no_digit h (rw (le-leb 48 (get_or text k 0) (omega arith), lt-leb (get_or text k 0) 57 high)) b

  pub all_digits_lem : length text ≤ k → Begun text k v → Some v ≡ digits_number text
  unfolding all_digits value_after digits_number
  all_digits_lem h b =
      let yes : all_digits text ≡ true = b.digits ∙ rw (drop_of_length-le text h) in
      let is : value_after 0 text ≡ v = b.value ∙ rw (drop_of_length-le text h) in
      rw (yes, is)

in_range : (text : List ℕ) → 1 ≤ length text → length text ≤ 18 → digits_number text ≡ number_in text
unfolding number_in
in_range text h k = rw (le-leb 1 (length text) h, le-leb (length text) 18 k)

-- A number below 10 to the power of 18 is read back from its digits.
digits_all : (l : List ℕ) → Digits l → all_digits l ≡ true
unfolding all_digits
digits_all [] d = refl
digits_all (c ∷ l) d = rw (d.0, digits_all l d.1)

some_digit : (n : ℕ) → 1 ≤ length (decimal n)
unfolding decimal decimal_within
some_digit n = let e = length-append (pick (ltb n 10) [] (decimal_within 19 (n / 10))) (digit (n % 10) ∷ []) in omega arith

pub number_back : (n : ℕ) → n < 10 ^ 18 → number_in (decimal n) ≡ Some n
unfolding digits_number
number_back n h =
    sym (in_range (decimal n) (some_digit n) (decimal_short 17 n h))
    ∙ rw (digits_all (decimal n) (decimal_digits n), decimal_value n (omega arith))
