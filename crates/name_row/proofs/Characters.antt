-- The characters of a row, one by one.
use Prim.Native.Nat.{ℕ, ◌+◌, ◌<◌}
use mathlib.Core.Path.{◌≡◌}
use mathlib.Core.List.{List, [], ◌∷◌, ◌++◌}
use mathlib.Core.Logic.{◌⊎◌, inl, inr}
use native.Mathlib.Numerals.{add-one}
use borrow.Author.Tests.{eq-eqb, ne_eqb}
use lib.Dec.{eqb}
use lib.ListN.{length, get_or, drop}
use lib.Seq.{drop-cons}
use Rattle.rules.specs.Rule.{pick}
use Rattle.text.specs.Text.{decimal}
use Rattle.name_row.specs.Row.{character, indexed}

-- an index stands after `[` and after no other character
pub character_bracket : (c i : ℕ) → c ≡ 91 → character c i ≡ c ∷ decimal i
unfolding character
character_bracket c i h = rw (eq-eqb c 91 h)

pub character_plain : (c i : ℕ) → (c ≡ 91 → ⊥) → character c i ≡ c ∷ []
unfolding character
character_plain c i h = rw (ne_eqb c 91 h)

module _ (r : List ℕ) (k i j : ℕ) (h : k < length r) where
  -- a blank ends the text
  pub at_blank : get_or r k 0 ≡ 32 → indexed (drop k r) i j ≡ []
  unfolding indexed
  at_blank e = rw (drop-cons r k 0 h, eq-eqb (get_or r k 0) 32 e)

  -- any other character is put, and the text goes on: after `[` with the next index
  pub at_character : (get_or r k 0 ≡ 32 → ⊥) →
      indexed (drop k r) i j ≡ character (get_or r k 0) i ++ indexed (drop (k + 1) r) (pick (eqb (get_or r k 0) 91) j i) j
  unfolding indexed
  at_character e = rw (drop-cons r k 0 h, ne_eqb (get_or r k 0) 32 e, add-one k)

  pub next_index : (l : ℕ) → ((get_or r k 0 ≡ 91) × (l ≡ j)) ⊎ ((get_or r k 0 ≡ 91 → ⊥) × (l ≡ i)) → pick (eqb (get_or r k 0) 91) j i ≡ l
  next_index l (inl (e, f)) = rw (eq-eqb (get_or r k 0) 91 e, f)
  next_index l (inr (e, f)) = rw (ne_eqb (get_or r k 0) 91 e, f)
