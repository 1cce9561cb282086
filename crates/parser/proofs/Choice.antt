-- A `match` on a number: each arm by its keys, and the last by those that are none of them.
use Prim.Native.Nat.{ℕ, zero, suc, ◌<◌, ◌≤◌}
use mathlib.Core.Path.{◌≡◌, refl}
use mathlib.Core.List.{List, [], ◌∷◌}
use mathlib.Core.Bool.{true, false}
use mathlib.Core.Logic.{◌⊎◌, inl, inr}
use native.Mathlib.Omega.{arith}
use borrow.Author.Tests.{ne_eqb, ltb-true}
use lib.Dec.{T, ltb}
use mir.Val.{has_key}
use types.Run.{OneOf, hit}
use Rattle.std.specs.Prelude as std
use Rattle.rules.specs.declared.reason.Reason.{Reason}
use Rattle.rules.specs.Rule.{Rule}
use Rattle.rules.specs.Derived.{among, arm_of, Arm, ◌⇒◌, choose}
use Rattle.parser.specs.declared.Parser.{Parser}
use Rattle.parser.specs.Met.{Met}

-- a number that is none of the keys
not_among : (kind : ℕ) (keys : List ℕ) → (OneOf keys kind → ⊥) → among kind keys ≡ false
not_among kind [] h = refl
not_among kind (k ∷ []) h = rw (ne_eqb _ _ h)
not_among kind (k ∷ l ∷ ks) h = rw (ne_eqb _ _ (λ e. h (inl e)), not_among kind (l ∷ ks) (λ e. h (inr e)))

-- what the last arm is told: of each arm before it, that its keys are others
abbrev Others : {A : Type 0} → Type 0 → List (Arm A) → ℕ → Type 0
Others n [] kind = n
Others n ((keys ⇒ r) ∷ arms) kind = Others (n × (OneOf keys kind → ⊥)) arms kind

module _ {A : Type 0} (kind : ℕ) where
  told : {n : Type 0} (arms : List (Arm A)) → Others n arms kind → n
  told [] h = h
  told {n = n} ((keys ⇒ r) ∷ arms) h = (told {n = n × (OneOf keys kind → ⊥)} arms h).0

  none_chosen : (n : Type 0) (arms : List (Arm A)) (other : Rule A) → Others n arms kind → arm_of kind arms other ≡ other
  none_chosen n [] other h = refl
  none_chosen n ((keys ⇒ r) ∷ arms) other h = rw (not_among kind keys (told arms h).1) (none_chosen (n × (OneOf keys kind → ⊥)) arms other h)

module _ {A : Type 0} (arms : List (Arm A)) (other : Rule A) {p : Parser} {a : std.Result A Reason} {q : Parser} {kind : ℕ} where
  pub chosen : {k : ℕ} → kind ≡ k → Met (arm_of k arms other) p a q → Met (choose kind arms other) p a q
  unfolding choose
  chosen e x = rw e x

  pub chosen_two : {k l : ℕ} → (kind ≡ k) ⊎ (kind ≡ l) → Met (arm_of k arms other) p a q → Met (arm_of l arms other) p a q →
      Met (choose kind arms other) p a q
  chosen_two (inl e) x y = chosen e x
  chosen_two (inr e) x y = chosen e y

  pub chosen_three : {k l m : ℕ} → (kind ≡ k) ⊎ ((kind ≡ l) ⊎ (kind ≡ m)) → Met (arm_of k arms other) p a q →
      Met (arm_of l arms other) p a q → Met (arm_of m arms other) p a q → Met (choose kind arms other) p a q
  chosen_three (inl e) x y z = chosen e x
  chosen_three (inr e) x y z = chosen_two e y z

module _ {A : Type 0} (arms : List (Arm A)) (other : Rule A) {p : Parser} {a : std.Result A Reason} {q : Parser} (kind : ℕ) where
  pub chosen_last : Others (Unit {0}) arms kind → Met other p a q → Met (choose kind arms other) p a q
  unfolding choose
  chosen_last h x = rw (none_chosen kind _ arms other h) x

  -- an arm that is passed over
  pub passed : (keys : List ℕ) (r : Rule A) → (OneOf keys kind → ⊥) → Met (choose kind arms other) p a q →
      Met (choose kind ((keys ⇒ r) ∷ arms) other) p a q
  unfolding choose
  passed keys r h x = rw (not_among kind keys h) x

-- Keys that follow each other are a range in the code. A number below `n` is one of keys that have all those numbers, and
-- one from `n` on is none of keys below `n`.
abbrev Firsts : (ℕ → Type 0) → ℕ → Type 0
Firsts P zero = Unit {0}
Firsts P (suc n) = P 0 × Firsts (λ k. P (suc k)) n

at_number : (P : ℕ → Type 0) (n k : ℕ) → Firsts P n → k < n → P k
at_number P zero k f h = absurd (omega arith)
at_number P (suc n) zero f h = f.0
at_number P (suc n) (suc k) f h = at_number (λ i. P (suc i)) n k f.1 (omega arith)

pub below : (keys : List ℕ) (n k : ℕ) → Firsts (λ i. T (has_key keys i)) n → k < n → OneOf keys k
below keys n k f h = hit keys k (at_number (λ i. T (has_key keys i)) n k f h)

abbrev AllBelow : ℕ → List ℕ → Type 0
AllBelow n [] = Unit {0}
AllBelow n (key ∷ keys) = (ltb key n ≡ true) × AllBelow n keys

pub past : (keys : List ℕ) (n k : ℕ) → AllBelow n keys → n ≤ k → OneOf keys k → ⊥
past [] n k b h e = e
past (key ∷ []) n k b h e = omega (arith, ltb-true key n b.0)
past (key ∷ l ∷ keys) n k b h (inl e) = omega (arith, ltb-true key n b.0)
past (key ∷ l ∷ keys) n k b h (inr e) = past (l ∷ keys) n k b.1 h e

pub but_first : (key l : ℕ) (keys : List ℕ) (k : ℕ) → (k ≡ key → ⊥) → OneOf (key ∷ l ∷ keys) k → OneOf (l ∷ keys) k
but_first key l keys k n (inl e) = absurd (n e)
but_first key l keys k n (inr e) = e

pub ruleset choices = (chosen, chosen_two, chosen_three, chosen_last)
