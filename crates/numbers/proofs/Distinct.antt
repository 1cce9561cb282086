-- Each number has words of its own.
use Prim.Native.Nat.{ℕ, ◌<◌}
use mathlib.Core.Path.{◌≡◌, refl, sym, ap, ◌∙◌}
use mathlib.Core.List.{List}
use mathlib.Core.Bool.{Bool, true, false, not, ◌&&◌, ◌||◌}
use native.Mathlib.Omega.{arith}
use borrow.Author.Tests.{eqb-true, leb-true}
use lib.Dec.{eqb, leb}
use lib.ListN.{length}
use Rattle.rules.proofs.Laws.{never, both}
use Rattle.text.specs.Table.{row}
use Rattle.text.specs.Text.{ascii, same_text}
use Rattle.text.proofs.Rows.{every, at_number, last_row}
use Rattle.numbers.specs.Meaning.{meanings, up_to_bar, meaning, HasWords}

-- 1 to 26 and 31 to 39
abbrev pub is_number : ℕ → Bool
is_number n = (leb 1 n && leb n 26) || (leb 31 n && leb n 39)

-- the number that has these words
number_with : List ℕ → ℕ
unfolding meanings ascii
number_with words = last_row (λ r. same_text (up_to_bar r) words) 0 0 meanings

-- every one is had back from them
abbrev is_told : ℕ → List ℕ → Bool
is_told n r = not (is_number n) || eqb (number_with (up_to_bar r)) n

all_told : every is_told 0 meanings ≡ true
unfolding number_with meanings up_to_bar ascii same_text
all_told = refl

in_table : (n : ℕ) → is_number n ≡ true → n < length meanings
unfolding meanings
in_table n h = go (leb 1 n && leb n 26) refl
  where
    go : (b : Bool) → (leb 1 n && leb n 26) ≡ b → n < 40
    go true e = let z = leb-true n 26 (both (leb 1 n) e).1 in omega arith
    go false e = let z = leb-true n 39 (both (leb 31 n) (rw e at h)).1 in omega arith

number_back : (n : ℕ) → is_number n ≡ true → number_with (meaning n) ≡ n
unfolding meaning
number_back n h = eqb-true _ n (rw h at (at_number is_told meanings n all_told (in_table n h)))

pub distinct_meanings : (m n : ℕ) → is_number m ≡ true → is_number n ≡ true → meaning m ≡ meaning n → m ≡ n
distinct_meanings m n h k e = sym (number_back m h) ∙ ap number_with e ∙ number_back n k

-- and none has those of a number without a meaning, of which the last is 30
without : number_with (meaning 0) ≡ 30
unfolding number_with meaning row meanings up_to_bar ascii same_text
without = refl

pub has_words : (n : ℕ) → is_number n ≡ true → HasWords n
has_words n h = record { words = λ e. let last = sym (number_back n h) ∙ ap number_with e ∙ without in never (rw last at h) refl }
