-- The questions of a call: which one decides, by those before it, and what is known where all are met.
use Prim.Native.Nat.{ℕ, ◌<◌}
use mathlib.Core.Path.{◌≡◌, refl, sym}
use mathlib.Core.List.{List, [], ◌∷◌, ◌++◌}
use mathlib.Core.Bool.{Bool, true, false}
use mathlib.Core.Logic.{◌≢◌}
use native.Mathlib.Omega.{arith}
use borrow.Author.Tests.{eq-eqb, ne_eqb, eqb-true, eqb-false}
use lib.Dec.{eqb}
use Rattle.rules.specs.declared.reason.Reason.{Reason}
use Rattle.rules.specs.Rule.{pick}
use Rattle.rules.specs.Reason.{number_of}
use Rattle.rules.specs.Questions.{asks, first_unmet}
use Rattle.rules.proofs.Numbered.{numbered}

-- one question
pub ask_met : (n : ℕ) {met : Bool} → met ≡ true → ◌≡◌ {A = ℕ} (asks n met) 0
ask_met n e = rw e refl

pub met_of : (n : ℕ) → 0 < n → (met : Bool) → ◌≡◌ {A = ℕ} (asks n met) 0 → met ≡ true
met_of n some true e = refl
met_of n some false e = absurd (omega arith)

-- the first of them, the last, and others after it
pub after_met : (n : ℕ) (ns : List ℕ) → n ≡ 0 → first_unmet (n ∷ ns) ≡ first_unmet ns
unfolding first_unmet
after_met n ns h = rw (eq-eqb n 0 h)

pub at_unmet : (n : ℕ) (ns : List ℕ) → n ≢ 0 → first_unmet (n ∷ ns) ≡ n
unfolding first_unmet
at_unmet n ns h = rw (ne_eqb n 0 h)

pub last_unmet : (n : ℕ) → first_unmet (n ∷ []) ≡ n
unfolding first_unmet
last_unmet n = go (eqb n 0) refl
  where
    go : (b : Bool) → eqb n 0 ≡ b → pick b 0 n ≡ n
    go true e = sym (eqb-true n 0 e)
    go false e = refl

pub first_met : (n : ℕ) (ns : List ℕ) → ◌≡◌ {A = ℕ} (first_unmet (n ∷ ns)) 0 → (n ≡ 0) × (first_unmet ns ≡ 0)
unfolding first_unmet
first_met n ns = go (eqb n 0) refl
  where
    go : (b : Bool) → eqb n 0 ≡ b → ◌≡◌ {A = ℕ} (pick b (first_unmet ns) n) 0 → (n ≡ 0) × (first_unmet ns ≡ 0)
    go true e h = (eqb-true n 0 e, h)
    go false e h = absurd (eqb-false n 0 e h)

pub after_all : (ns ms : List ℕ) → first_unmet (ns ++ ms) ≡ pick (eqb (first_unmet ns) 0) (first_unmet ms) (first_unmet ns)
unfolding first_unmet
after_all [] ms = refl
after_all (n ∷ ns) ms = go (eqb n 0) refl (after_all ns ms)
  where
    go : (b : Bool) → eqb n 0 ≡ b → first_unmet (ns ++ ms) ≡ pick (eqb (first_unmet ns) 0) (first_unmet ms) (first_unmet ns) →
        pick b (first_unmet (ns ++ ms)) n ≡ pick (eqb (pick b (first_unmet ns) n) 0) (first_unmet ms) (pick b (first_unmet ns) n)
    go true e rest = rest
    go false e rest = rw e refl

-- a reason has a number
pub some_number : (e : Reason) → number_of e ≢ 0
some_number e h = eqb-false (number_of e) 0 (numbered e) h
