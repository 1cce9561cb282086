-- The laws of computed chains and numbers, as the code's loops go through them.
use Prim.Native.Nat.{ℕ, zero, suc, ◌+◌, ◌-◌, ◌≤◌, ◌<◌}
use mathlib.Core.Path.{◌≡◌, refl, sym, ◌∙◌}
use mathlib.Core.List.{List}
use native.Mathlib.Omega.{arith}
use native.Mathlib.Numerals.{add-one}
use borrow.Author.Tests.{le-leb, lt-leb, ne_eqb}
use lib.Dec.{eqb, leb}
use lib.ListN.{length}
use Rattle.rules.specs.declared.reason.Reason.{Reason}
use Rattle.rules.specs.Rule.{refused}
use Rattle.rules.specs.Reason.{number_of, end_of}
use Rattle.rules.proofs.Pick.{by_pick}
use Rattle.rules.specs.Reason.{IsRefusal}
use Rattle.std.specs.Prelude.{Ok, Err}
use Rattle.rules.specs.declared.reason.Reason.TheVariants.{ParentUndeclared, ParentsInCircle}
use Rattle.ranks.specs.Rank.{Chain, parent_of, Declared, climb, chain, judge, on_chain, verdict}

module _ (ps : List ℕ) where
  -- one number of a chain: not looked at, 0, beyond the positions, and a position
  pub climb_none : (f k i : ℕ) → f ≡ 0 → climb ps f k i ≡ Err ParentsInCircle
  unfolding climb
  climb_none f k i e = rw e

  pub climb_end : (f k i : ℕ) → 0 < f → i ≡ 0 → climb ps f k i ≡ Ok k
  unfolding climb
  climb_end zero k i l e = elim l [ ]
  climb_end (suc f) k i l e = rw e

  pub climb_out : (f k i : ℕ) → 0 < f → length ps < i → climb ps f k i ≡ Err ParentUndeclared
  unfolding climb
  climb_out zero k i l h = elim l [ ]
  climb_out (suc f) k i l h = simp (ne_eqb i 0 (λ e. omega arith), lt-leb i (length ps) h)

  pub climb_up : (f k i : ℕ) → Declared ps i → climb ps (suc f) k i ≡ climb ps f (suc k) (parent_of ps i)
  unfolding climb
  climb_up f k i d = simp (ne_eqb i 0 (λ e. omega arith), le-leb i (length ps) d.to)

  -- a turn of the loop over the positions, and its end
  judge_turn : (i : ℕ) (c : Chain) → c ≡ chain ps (i + 1) → i < length ps →
      on_chain c (judge ps (length ps - (i + 1)) (i + 1)) ≡ judge ps (length ps - i) i
  unfolding judge
  judge_turn i c e l =
      let a : length ps - i ≡ suc (length ps - (i + 1)) = omega arith in
      rw (a, e, add-one)

  pub judge_on : (i : ℕ) {c : Chain} {r : ℕ} → c ≡ chain ps (i + 1) → c ≡ Ok r → i < length ps →
      judge ps (length ps - i) i ≡ verdict ps → judge ps (length ps - (i + 1)) (i + 1) ≡ verdict ps
  judge_on i {r = r} q m l v = judge_turn i (Ok r) (sym m ∙ q) l ∙ v

  pub judge_out : (i : ℕ) {c : Chain} {e : Reason} → c ≡ chain ps (i + 1) → c ≡ Err e → i < length ps → number_of e ≡ judge ps (length ps - i) i
  judge_out i {e = e} q m l = judge_turn i (Err e) (sym m ∙ q) l

  pub judge_end : (i : ℕ) → length ps ≤ i → 0 ≡ judge ps (length ps - i) i
  unfolding judge
  judge_end i l =
      let a : length ps - i ≡ 0 = omega arith in
      rw a

  -- a chain without a rank refuses
  climb_refuses : (f k i : ℕ) → IsRefusal (climb ps f k i)
  unfolding climb
  climb_refuses zero k i = refl
  climb_refuses (suc f) k i = by_pick IsRefusal (eqb i 0) _ _ (λ _. tt) (λ _. by_pick IsRefusal (leb i (length ps)) _ _ (λ _. climb_refuses f (suc k) (parent_of ps i)) (λ _. refl))

  pub chain_refuses : (i : ℕ) {c : Chain} {e : Reason} → c ≡ chain ps i → c ≡ Err e → end_of e ≡ refused (number_of e)
  chain_refuses i q m = rw (sym q ∙ m) at (climb_refuses (suc (length ps)) 0 i)
