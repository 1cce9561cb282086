-- The computed largest rank is the largest, and the only one.
use Prim.Native.Nat.{ℕ, zero, suc, ◌+◌, ◌≤◌, ◌<◌, max}
use mathlib.Core.Path.{◌≡◌, refl, sym, ◌∙◌, ap, ap₂}
use mathlib.Core.List.{List}
use mathlib.Core.Logic.{◌⊎◌, inl, inr}
use native.Mathlib.Omega.{arith}
use native.Mathlib.Decide.{ℕ_discrete, dec_lt}
use native.Mathlib.Numerals.{add-one}
use lib.ListN.{length}
use Rattle.std.specs.Prelude.{Ok}
use Rattle.ranks.specs.Rank.{Chain, chain, Declared, HaveRanks, Largest, HaveLargest, rank_in, rank_of, largest_up_to, deepest}
use Rattle.ranks.proofs.Ranks.{chain_ranks, ranks_has, rank_computed}

module _ (ps : List ℕ) where
  -- the rank of one position more
  step : (n : ℕ) → largest_up_to ps (suc n) ≡ max (largest_up_to ps n) (rank_of ps (suc n))
  unfolding largest_up_to
  step n = refl

  pub one_rank : (n : ℕ) {d r : ℕ} → d ≡ largest_up_to ps n → r ≡ rank_of ps (n + 1) → max d r ≡ largest_up_to ps (n + 1)
  one_rank n e has = rw add-one (ap₂ max e (rw add-one at has) ∙ sym (step n))

  pub one_more : (n : ℕ) {d r : ℕ} {c : Chain} → d ≡ largest_up_to ps n → c ≡ chain ps (n + 1) → c ≡ Ok r → max d r ≡ largest_up_to ps (n + 1)
  one_more n e q m = one_rank n e (ap rank_in (sym m ∙ q))

  pub all : {n d : ℕ} → d ≡ largest_up_to ps n → n ≡ length ps → d ≡ deepest ps
  all e q = rw q at e

  bound : (n i : ℕ) → Declared ps i → i ≤ n → rank_of ps i ≤ largest_up_to ps n
  bound zero i d l = absurd (omega (arith, d.from))
  bound (suc n) i d l = by (ℕ_discrete i (suc n)) (bound n i d)
    where
      by : Dec (i ≡ suc n) → (i ≤ n → rank_of ps i ≤ largest_up_to ps n) → rank_of ps i ≤ largest_up_to ps (suc n)
      by (yes e) below = let same = ap (rank_of ps) e in omega (arith, step n)
      by (no m) below = let less = below (omega arith) in omega (arith, step n)

  abbrev Reached : ℕ → ℕ → Type 0
  Reached n d = ((n ≡ 0) × (d ≡ 0)) ⊎ ((i : ℕ) × Declared ps i × (rank_of ps i ≡ d))

  reach : (n : ℕ) → n ≤ length ps → Reached n (largest_up_to ps n)
  unfolding largest_up_to
  reach zero l = inl (refl, refl)
  reach (suc n) l = by (dec_lt (largest_up_to ps n) (rank_of ps (suc n))) (reach n (omega arith))
    where
      here : Declared ps (suc n)
      here = record { from = omega arith; to = omega arith }

      by : Dec (largest_up_to ps n < rank_of ps (suc n)) → Reached n (largest_up_to ps n) → Reached (suc n) (largest_up_to ps (suc n))
      by (yes m) before = inr (suc n, here, omega (arith, step n))
      by (no m) (inl w) = inr (suc n, here, omega (arith, step n, w.1))
      by (no m) (inr w) = inr (w.0, w.1, omega (arith, step n, w.2))

  pub deepest_is : Largest ps (rank_of ps) (deepest ps)
  deepest_is = record {
    none_larger = λ i d. bound (length ps) i d d.to;
    reached = reach (length ps) (omega arith);
  }

  pub have_largest : HaveRanks ps → HaveLargest ps (deepest ps)
  have_largest w = (rank_of ps, chain_ranks ps w, deepest_is)

  -- whatever gives each position its rank, the largest of them is this one
  pub deepest_unique : {d : ℕ} → HaveLargest ps d → d ≡ deepest ps
  deepest_unique {d} w = by w.2.reached deepest_is.reached
    where
      same : (i : ℕ) → Declared ps i → rank_of ps i ≡ w.0 i
      same i h = ap rank_in (rank_computed ps (ranks_has ps w.1 (w.0 i) i h refl))

      by : ((length ps ≡ 0) × (d ≡ 0)) ⊎ ((i : ℕ) × Declared ps i × (w.0 i ≡ d)) → Reached (length ps) (deepest ps) → d ≡ deepest ps
      by (inl a) (inl b) = a.1 ∙ sym b.1
      by (inl a) (inr b) = absurd (omega (arith, a.0, b.1.from, b.1.to))
      by (inr a) (inl b) = absurd (omega (arith, b.0, a.1.from, a.1.to))
      by (inr a) (inr b) =
          omega (arith, a.2, b.2, same a.0 a.1, same b.0 b.1, deepest_is.none_larger a.0 a.1, w.2.none_larger b.0 b.1)
