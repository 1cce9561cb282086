-- The number that a text is, if it has 1 to 18 digits and nothing else.
use Rattle.std.specs.Prelude.{ℕ, List, [], ◌∷◌, Bool, true, ◌&&◌, Option, Some, None, leb, length}
use Rattle.rules.specs.Rule.{pick}
use Rattle.text.specs.Text.{is_digit, value_after}

unfoldable pub all_digits : List ℕ → Bool
all_digits [] = true
all_digits (c ∷ cs) = is_digit c && all_digits cs

unfoldable pub digits_number : List ℕ → Option ℕ
digits_number text = pick (all_digits text) (Some (value_after 0 text)) None

unfoldable pub number_in : List ℕ → Option ℕ
number_in text = pick (leb 1 (length text) && leb (length text) 18) (digits_number text) None
