-- What a table of slices gives for a number.
use Prim.Native.Nat.{ℕ, zero, suc, ◌<◌, ◌≤◌}
use Prim.Native.String.{String}
use mathlib.Core.Path.{◌≡◌, refl, sym, ◌∙◌}
use mathlib.Core.List.{List, [], ◌∷◌}
use native.Mathlib.Omega.{arith}
use lib.ListN.{length, get_or, get_or-eq_default}
use Rattle.std.specs.Borrow.{Bor}
use Rattle.text.specs.Table.{texts}

texts_long : (ts : List (Bor (List ℕ))) → length (texts ts) ≡ length ts
texts_long [] = refl
texts_long (t ∷ ts) = let e = texts_long ts in omega arith

-- a row that it has
pub text_at : (ts : List (Bor (List ℕ))) (n : ℕ) (d : Bor (List ℕ)) (e : List ℕ) → n < length ts → (get_or ts n d).now ≡ get_or (texts ts) n e
text_at [] n d e h = absurd (omega arith)
text_at (t ∷ ts) zero d e h = refl
text_at (t ∷ ts) (suc n) d e h = text_at ts n d e (omega arith)

-- and row 0 for any other
pub text_past : (ts : List (Bor (List ℕ))) (n : ℕ) (d : Bor (List ℕ)) (e : List ℕ) → 0 < length ts → length ts ≤ n →
    (get_or ts 0 d).now ≡ get_or (texts ts) n (get_or (texts ts) 0 e)
text_past ts n d e some h = text_at ts 0 d e some ∙ sym (get_or-eq_default (texts ts) _ (let long = texts_long ts in omega arith))

-- the texts made of a table's rows
abbrev pub each_row : (String → List ℕ) → List String → List (List ℕ)
each_row f [] = []
each_row f (s ∷ ss) = f s ∷ each_row f ss

pub each_row_at : (f : String → List ℕ) (ss : List String) (n : ℕ) (d : String) → get_or (each_row f ss) n (f d) ≡ f (get_or ss n d)
each_row_at f [] n d = refl
each_row_at f (s ∷ ss) zero d = refl
each_row_at f (s ∷ ss) (suc n) d = each_row_at f ss n d
