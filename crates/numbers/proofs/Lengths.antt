-- What a number means has at most 59 letters, as its row has.
use Prim.Native.Nat.{ℕ, ◌≤◌}
use mathlib.Core.Path.{◌≡◌, refl}
use mathlib.Core.List.{List, [], ◌∷◌}
use mathlib.Core.Bool.{true}
use native.Mathlib.Omega.{arith}
use borrow.Author.Tests.{eqb-true}
use lib.Dec.{eqb}
use lib.ListN.{length}
use Rattle.rules.proofs.Pick.{by_pick}
use Rattle.text.specs.Table.{row}
use Rattle.text.specs.Text.{ascii}
use Rattle.text.proofs.Rows.{every, wide, at_row}
use Rattle.numbers.specs.Meaning.{meanings, up_to_bar, meaning}

-- every row has 59 bytes
pub all_wide : every (λ _. wide) 0 meanings ≡ true
unfolding meanings ascii
all_wide = refl

text_most : (r : List ℕ) → length (up_to_bar r) ≤ length r
unfolding up_to_bar
text_most [] = omega arith
text_most (c ∷ r) =
    let rest = text_most r in
    by_pick (λ l. length l ≤ length (c ∷ r)) (eqb c 124) [] (c ∷ up_to_bar r) (λ _. omega arith) (λ _. omega arith)

pub meaning_most : (n : ℕ) → length (meaning n) ≤ 59
unfolding meaning meanings
meaning_most n =
    let most = text_most (row meanings n) in
    let long = eqb-true (length (row meanings n)) 59 (at_row wide meanings n all_wide (omega arith)) in
    omega arith
