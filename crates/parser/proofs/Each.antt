-- A loop over a list whose values are replaced one after another: one turn, a turn that ends the reading, and the end.
use Prim.Native.Nat.{ℕ, ◌+◌}
use mathlib.Core.Path.{◌≡◌, ap, ◌∙◌, fun_ext}
use mathlib.Core.List.{List, [], ◌∷◌}
use Rattle.std.specs.Prelude as std
use Rattle.std.specs.Prelude.{Ok, Err}
use Rattle.rules.specs.declared.reason.Reason.{Reason}
use Rattle.rules.specs.Rule.{Rule, ◌>>=◌}
use Rattle.rules.specs.Derived.{each}
use Rattle.rules.proofs.Bind.{assoc}
use Rattle.parser.specs.declared.Parser.{Parser}
use Rattle.parser.specs.Met.{Met}
use Rattle.parser.proofs.Left.{Left, left_step, left_ended}

module _ {A B : Type 0} (f : ℕ → A → Rule A) (i : ℕ) (k : List A → Rule B) where
  -- what is left after the first value
  after_first : (x : A) (xs : List A) → each f i (x ∷ xs) >>= k ≡ f i x >>= (λ y. each f (i + 1) xs >>= (λ ys. k (y ∷ ys)))
  unfolding each ◌>>=◌
  after_first x xs = assoc (f i x) _ k ∙ ap (λ g. f i x >>= g) (fun_ext (λ y. assoc (each f (i + 1) xs) _ k))

  module _ {r : Rule B} {p t : Parser} where
    module _ {x : A} (xs : List A) {a : std.Result A Reason} {u : Parser} (l : Left r p (each f i (x ∷ xs) >>= k) t) (m : Met (f i x) t a u) where
      pub each_more : {y : A} → a ≡ Ok y → Left r p (each f (i + 1) xs >>= (λ ys. k (y ∷ ys))) u
      each_more e = left_step _ (rw (after_first x xs) at l) m e

      pub each_ended : {e : Reason} → a ≡ Err e → Met r p (Err e) u
      each_ended e = left_ended _ (rw (after_first x xs) at l) m e

    pub each_none : Left r p (each f i [] >>= k) t → Left r p (k []) t
    unfolding each ◌>>=◌
    each_none l = l
