-- A text tells the rows that it was made of: without the digits after each `[` it is their text as the table has it.
use Prim.Native.Nat.{ℕ, ◌+◌, ◌≤◌, ◌<◌, ◌^◌}
use mathlib.Core.Path.{◌≡◌, refl, sym, ap, ◌∙◌}
use mathlib.Core.List.{List, [], ◌∷◌, ◌++◌, append_assoc}
use mathlib.Core.Bool.{Bool, true, false, ◌&&◌}
use native.Mathlib.Omega.{arith}
use borrow.Author.Tests.{eqb-true, eqb-false}
use lib.Dec.{eqb}
use lib.ListN.{get_or, drop}
use Rattle.rules.specs.Rule.{pick}
use Rattle.rules.proofs.Laws.{never, both}
use Rattle.text.specs.Text.{decimal, is_digit}
use Rattle.text.proofs.Decimal.{Digits, decimal_digits, decimal_once}
use Rattle.name_row.specs.Row.{character, indexed}
use Rattle.name_row.proofs.Characters.{character_bracket, character_plain}

-- the text of a row as the table has it
abbrev pub up_to_blank : List ℕ → List ℕ
up_to_blank [] = []
up_to_blank (c ∷ cs) = pick (eqb c 32) [] (c ∷ up_to_blank cs)

-- each `[` of it is followed by `]`; the flag says that one has just been met
abbrev pub closed : Bool → List ℕ → Bool
closed false [] = true
closed false (c ∷ cs) = pick (eqb c 32) true (closed (eqb c 91) cs)
closed true [] = false
closed true (c ∷ cs) = eqb c 93 && closed false cs

-- a text without the digits after each `[`
abbrev pub form : Bool → List ℕ → List ℕ
form b [] = []
form false (c ∷ cs) = c ∷ form (eqb c 91) cs
form true (c ∷ cs) = pick (is_digit c) (form true cs) (c ∷ form false cs)

form_digits : (ds rest : List ℕ) → Digits ds → form true (ds ++ rest) ≡ form true rest
form_digits [] rest d = refl
form_digits (c ∷ ds) rest d = rw d.0 (form_digits ds rest d.1)

form_character : (c i : ℕ) (rest : List ℕ) → form false (character c i ++ rest) ≡ c ∷ form (eqb c 91) rest
unfolding character
form_character c i rest = ap (λ (l : List ℕ). c ∷ l) (go (eqb c 91))
  where
    go : (b : Bool) → form b (pick b (decimal i) [] ++ rest) ≡ form b rest
    go true = form_digits (decimal i) rest (decimal_digits i)
    go false = refl

form_closing : (cs : List ℕ) (i j : ℕ) (rest : List ℕ) → form false (indexed cs i j ++ rest) ≡ up_to_blank cs ++ form false rest →
    form true (indexed (93 ∷ cs) i j ++ rest) ≡ up_to_blank (93 ∷ cs) ++ form false rest
unfolding indexed character
form_closing cs i j rest again = ap (λ (l : List ℕ). 93 ∷ l) again

pub form_indexed : (r : List ℕ) (b : Bool) (i j : ℕ) (rest : List ℕ) → closed b r ≡ true → form b (indexed r i j ++ rest) ≡ up_to_blank r ++ form false rest
unfolding indexed
form_indexed [] false i j rest t = refl
form_indexed [] true i j rest t = never t refl
form_indexed (c ∷ cs) false i j rest t = go (eqb c 32) t (form_indexed cs (eqb c 91) (pick (eqb c 91) j i) j rest)
  where
    next : List ℕ
    next = indexed cs (pick (eqb c 91) j i) j

    go : (b : Bool) → pick b true (closed (eqb c 91) cs) ≡ true → (closed (eqb c 91) cs ≡ true → form (eqb c 91) (next ++ rest) ≡ up_to_blank cs ++ form false rest) →
        form false (pick b [] (character c i ++ next) ++ rest) ≡ pick b [] (c ∷ up_to_blank cs) ++ form false rest
    go true t again = refl
    go false t again = rw (append_assoc (character c i) next rest, form_character c i (next ++ rest), again t)
form_indexed (c ∷ cs) true i j rest t =
    rw (eqb-true c 93 (both (eqb c 93) t).0) (form_closing cs i j rest (form_indexed cs false i j rest (both (eqb c 93) t).1))

-- So are its indices: a text and what follows it tell what stands after each `[`.
abbrev pub places : List ℕ → ℕ
places [] = 0
places (c ∷ cs) = pick (eqb c 32) 0 (pick (eqb c 91) 1 0 + places cs)

pub record Same (n i j k l : ℕ) (x y : List ℕ) : Type 0 where
  pub first : 1 ≤ n → i ≡ k
  pub second : 2 ≤ n → j ≡ l
  pub rest : x ≡ y

head_same : {c d : ℕ} {x y : List ℕ} → ◌≡◌ {A = List ℕ} (c ∷ x) (d ∷ y) → c ≡ d
head_same e = ap (λ (l : List ℕ). get_or l 0 0) e

tail_same : {c d : ℕ} {x y : List ℕ} → ◌≡◌ {A = List ℕ} (c ∷ x) (d ∷ y) → x ≡ y
tail_same e = ap (drop 1) e

-- digits end where `]` stands
digits_same : (a b x y : List ℕ) → Digits a → Digits b → a ++ (93 ∷ x) ≡ b ++ (93 ∷ y) → (a ≡ b) × (x ≡ y)
digits_same [] [] x y p q e = (refl, tail_same e)
digits_same [] (d ∷ b) x y p q e = never (rw (← head_same e) at q.0) refl
digits_same (c ∷ a) [] x y p q e = never (rw (head_same e) at p.0) refl
digits_same (c ∷ a) (d ∷ b) x y p q e =
    let again = digits_same a b x y p.1 q.1 (tail_same e) in
    (rw (head_same e, again.0), again.1)

-- `]` and what follows it
indexed_closing : (c : ℕ) (cs : List ℕ) (i j : ℕ) → eqb c 93 ≡ true → indexed (c ∷ cs) i j ≡ 93 ∷ indexed cs i j
unfolding indexed character
indexed_closing c cs i j t = rw (eqb-true c 93 t)

bracket_same : (cs : List ℕ) (i j k l : ℕ) (x y : List ℕ) → closed true cs ≡ true → decimal i ++ (indexed cs j j ++ x) ≡ decimal k ++ (indexed cs l l ++ y) →
    (decimal i ≡ decimal k) × (indexed cs j j ++ x ≡ indexed cs l l ++ y)
bracket_same [] i j k l x y t e = never t refl
bracket_same (c ∷ cs) i j k l x y t e =
    let here = (both (eqb c 93) t).0 in
    let apart = digits_same (decimal i) (decimal k) (indexed cs j j ++ x) (indexed cs l l ++ y) (decimal_digits i) (decimal_digits k)
    (rw (indexed_closing c cs j j here, indexed_closing c cs l l here) at e) in
    (apart.0, rw (indexed_closing c cs j j here, indexed_closing c cs l l here) (ap (λ (m : List ℕ). 93 ∷ m) apart.1))

-- a character and what follows it
with_index : (c i : ℕ) (rest x : List ℕ) → eqb c 91 ≡ true → (character c i ++ rest) ++ x ≡ c ∷ (decimal i ++ (rest ++ x))
with_index c i rest x t = rw (character_bracket c i (eqb-true c 91 t)) (ap (λ (l : List ℕ). c ∷ l) (append_assoc (decimal i) rest x))

without_index : (c i : ℕ) (rest x : List ℕ) → eqb c 91 ≡ false → (character c i ++ rest) ++ x ≡ c ∷ (rest ++ x)
without_index c i rest x t = rw (character_plain c i (eqb-false c 91 t))

-- what the rest of two texts tells, after a character that both have
character_same : (c i j k l : ℕ) (cs x y : List ℕ) (b : Bool) → eqb c 91 ≡ b → closed b cs ≡ true → i < 2 ^ 64 → k < 2 ^ 64 →
    (character c i ++ indexed cs (pick b j i) j) ++ x ≡ (character c k ++ indexed cs (pick b l k) l) ++ y →
    (indexed cs (pick b j i) j ++ x ≡ indexed cs (pick b l k) l ++ y → Same (places cs) (pick b j i) j (pick b l k) l x y) →
    Same (pick b 1 0 + places cs) i j k l x y
character_same c i j k l cs x y true f t h m e again =
    let opened = sym (with_index c i (indexed cs j j) x f) ∙ e ∙ with_index c k (indexed cs l l) y f in
    let apart = bracket_same cs i j k l x y t (tail_same opened) in
    let after = again apart.1 in
    record { first = λ _. decimal_once i k h m apart.0; second = λ two. after.first (omega arith); rest = after.rest }
character_same c i j k l cs x y false f t h m e again =
    let opened = sym (without_index c i (indexed cs i j) x f) ∙ e ∙ without_index c k (indexed cs k l) y f in
    let after = again (tail_same opened) in
    record { first = λ one. after.first (omega arith); second = λ two. after.second (omega arith); rest = after.rest }

-- and after `]`
closing : (c : ℕ) (cs : List ℕ) (i j k l : ℕ) (x y : List ℕ) → eqb c 93 ≡ true → indexed (c ∷ cs) i j ++ x ≡ indexed (c ∷ cs) k l ++ y →
    (indexed cs i j ++ x ≡ indexed cs k l ++ y → Same (places cs) i j k l x y) → Same (places (c ∷ cs)) i j k l x y
closing c cs i j k l x y here e again =
    let tails = tail_same (rw (indexed_closing c cs i j here, indexed_closing c cs k l here) at e) in
    let after = again tails in
    let no_place : places (c ∷ cs) ≡ 0 + places cs = rw (eqb-true c 93 here) in
    rw no_place (record { first = λ one. after.first (omega arith); second = λ two. after.second (omega arith); rest = after.rest })

small_pick : (b : Bool) (i j : ℕ) → i < 2 ^ 64 → j < 2 ^ 64 → pick b j i < 2 ^ 64
small_pick true i j h m = m
small_pick false i j h m = h

pub same_indices : (r : List ℕ) (b : Bool) (i j k l : ℕ) (x y : List ℕ) → closed b r ≡ true → i < 2 ^ 64 → j < 2 ^ 64 → k < 2 ^ 64 → l < 2 ^ 64 →
    indexed r i j ++ x ≡ indexed r k l ++ y → Same (places r) i j k l x y
unfolding indexed
same_indices [] b i j k l x y t hi hj hk hl e = record { first = λ one. absurd (omega arith); second = λ two. absurd (omega arith); rest = e }
same_indices (c ∷ cs) false i j k l x y t hi hj hk hl e =
    go (eqb c 32) t e
    (λ (u : closed (eqb c 91) cs ≡ true). same_indices cs (eqb c 91) (pick (eqb c 91) j i) j (pick (eqb c 91) l k) l x y u (small_pick (eqb c 91) i j hi hj) hj (small_pick (eqb c 91) k l hk hl) hl)
  where
    go : (d : Bool) → pick d true (closed (eqb c 91) cs) ≡ true →
        pick d [] (character c i ++ indexed cs (pick (eqb c 91) j i) j) ++ x ≡ pick d [] (character c k ++ indexed cs (pick (eqb c 91) l k) l) ++ y →
        (closed (eqb c 91) cs ≡ true → indexed cs (pick (eqb c 91) j i) j ++ x ≡ indexed cs (pick (eqb c 91) l k) l ++ y → Same (places cs) (pick (eqb c 91) j i) j (pick (eqb c 91) l k) l x y) →
        Same (pick d 0 (pick (eqb c 91) 1 0 + places cs)) i j k l x y
    go true t e again = record { first = λ one. absurd (omega arith); second = λ two. absurd (omega arith); rest = e }
    go false t e again = character_same c i j k l cs x y (eqb c 91) refl t hi hk e (again t)
same_indices (c ∷ cs) true i j k l x y t hi hj hk hl e = closing c cs i j k l x y (both (eqb c 93) t).0 e (same_indices cs false i j k l x y (both (eqb c 93) t).1 hi hj hk hl)
