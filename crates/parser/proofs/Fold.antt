-- A loop over numbers, `n` turns in all: one turn, a turn that ends the reading, and the end.
use Prim.Native.Nat.{ℕ, zero, suc, ◌+◌, ◌-◌, ◌<◌, ◌≤◌}
use mathlib.Core.Path.{◌≡◌}
use native.Mathlib.Omega.{arith}
use Rattle.std.specs.Prelude as std
use Rattle.std.specs.Prelude.{Ok, Err}
use Rattle.rules.specs.declared.reason.Reason.{Reason}
use Rattle.rules.specs.Rule.{Rule}
use Rattle.rules.specs.Derived.{fold}
use Rattle.parser.specs.declared.Parser.{Parser}
use Rattle.parser.specs.Met.{Met}
use Rattle.parser.proofs.Laws.{last}
use Rattle.parser.proofs.Left.{Left, left_step, left_ended}

module _ {A : Type 0} (f : ℕ → A → Rule A) (i n : ℕ) (a : A) {r : Rule A} {p t : Parser} (l : Left r p (fold f i (n - i) a) t) where
  module _ {x : std.Result A Reason} {u : Parser} (h : i < n) (m : Met (f i a) t x u) where
    pub fold_more : {b : A} → x ≡ Ok b → Left r p (fold f (i + 1) (n - (i + 1)) b) u
    unfolding fold
    fold_more e = let d : n - i ≡ suc (n - (i + 1)) = omega arith in left_step _ (rw d at l) m e

    pub fold_ended : {e : Reason} → x ≡ Err e → Met r p (Err e) u
    unfolding fold
    fold_ended e = let d : n - i ≡ suc (n - (i + 1)) = omega arith in left_ended _ (rw d at l) m e

  pub fold_none : n ≤ i → Met r p (Ok a) t
  unfolding fold
  fold_none h = let d : n - i ≡ zero = omega arith in (rw d at l).rest last
