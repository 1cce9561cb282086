-- A chain that is followed position by position, and what it is found to do where that ends.
use Prim.Native.Nat.{ℕ, suc, ◌+◌, ◌-◌, ◌<◌, ◌≤◌}
use mathlib.Core.Path.{◌≡◌, sym, ◌∙◌, ap, subst}
use mathlib.Core.List.{List}
use native.Mathlib.Omega.{arith}
use native.Mathlib.Decide.{ℕ_discrete, dec_lt}
use native.Mathlib.Nat.{sub-zero}
use lib.ListN.{length, get_or, set, take, replicate, length-set, length-replicate, get_or-replicate}
use lib.Seq.{get_or-set_same, get_or-set_other, length-take-le, get_or-take}
use Rattle.std.specs.Prelude.{Ok, Err}
use Rattle.rules.specs.declared.reason.Reason.TheVariants.{ParentUndeclared, ParentsInCircle}
use Rattle.ranks.specs.Rank.{Declared, HasRank, Passes, above, parent_of, chain}
use Rattle.ranks.specs.KnownRanks.{KnownRanks}
use Rattle.ranks.proofs.Ranks.{above_zero, above_add, goes_round, rank_less, rank_computed, out_computed, round_computed}

module _ (ps : List ℕ) where
  -- `at` is the number after the first k of the chain of i, which are declared
  pub record Walk (i k at : ℕ) : Type 0 where
    passes : Passes ps k i
    there : above ps k i ≡ at

  pub begins : (i : ℕ) → Walk i 0 i
  begins i = record { passes = λ j l. absurd (omega arith); there = above_zero ps i }

  passes_on : (i k : ℕ) → Passes ps k i → Declared ps (above ps k i) → Passes ps (k + 1) i
  passes_on i k p d j l = by (ℕ_discrete j k)
    where
      by : Dec (j ≡ k) → Declared ps (above ps j i)
      by (yes e) = rw e d
      by (no n) = p j (omega arith)

  pub goes_on : {i k at : ℕ} → Walk i k at → Declared ps at → Walk i (k + 1) (parent_of ps at)
  unfolding above
  goes_on {i} {k} w d = record {
    passes = passes_on i k w.passes (subst (Declared ps) (sym w.there) d);
    there = above_add ps k 1 i ∙ ap (λ (x : ℕ). parent_of ps x) w.there;
  }

  -- the positions of a chain, before and after one that has a rank
  passes_all : {i k at r : ℕ} → Walk i k at → HasRank ps at r → Passes ps (k + r) i
  passes_all {i} {k} {at} w h j l = by (dec_lt j k)
    where
      by : Dec (j < k) → Declared ps (above ps j i)
      by (yes m) = w.passes j m
      by (no n) =
          let e : k + (j - k) ≡ j = omega arith in
          let there : above ps j i ≡ above ps (j - k) at =
          ap (λ (x : ℕ). above ps x i) (sym e) ∙ above_add ps k (j - k) i ∙ ap (above ps (j - k)) w.there in
          subst (Declared ps) (sym there) (h.passes (j - k) (omega arith))

  -- it meets a position that has a rank, or 0
  pub meets : {i k at r : ℕ} → Walk i k at → HasRank ps at r → chain ps i ≡ Ok (k + r)
  meets {i} {k} {at} {r} w h =
      rank_computed ps (record {
        passes = passes_all w h;
        ends = above_add ps k r i ∙ ap (above ps r) w.there ∙ h.ends;
      })

  pub ends : {i k at : ℕ} → Walk i k at → at ≡ 0 → chain ps i ≡ Ok k
  ends w e = rank_computed ps (record { passes = w.passes; ends = w.there ∙ e })

  -- it leaves the declared numbers, or has more than there are
  pub leaves : {i k at : ℕ} → Walk i k at → length ps < at → chain ps i ≡ Err ParentUndeclared
  leaves {k = k} w l = out_computed ps (record { at = k; passes = w.passes; beyond = omega (arith, w.there) })

  pub returns : {i k at : ℕ} → k ≡ suc (length ps) → Walk i k at → chain ps i ≡ Err ParentsInCircle
  returns {i} e w = round_computed ps (goes_round ps i (subst (λ (n : ℕ). Passes ps n i) e w.passes))

  pub all_left : {i r : ℕ} → HasRank ps i r → HasRank ps i (r - 0)
  all_left h = rw sub-zero h

  -- a position that has a rank which is not 0
  pub has_declared : {i r k : ℕ} → HasRank ps i (r - k) → k < r → Declared ps i
  has_declared {i} h l = subst (Declared ps) (above_zero ps i) (h.passes 0 (omega arith))

  -- and its parent has one less
  pub parent_has : {i r k : ℕ} → HasRank ps i (r - k) → k < r → HasRank ps (parent_of ps i) (r - (k + 1))
  parent_has {i} {r} {k} h l =
      let e : r - k ≡ suc (r - (k + 1)) = omega arith in
      rank_less ps (subst (HasRank ps i) e h)

  -- no rank is known at first
  pub none_known : (n m : ℕ) → length ps ≡ n → n ≤ m → m < 256 → KnownRanks ps (take n (replicate m 0))
  none_known n m e l small =
      let zeros : List ℕ = replicate m 0 in
      let many : length zeros ≡ m = length-replicate {A = ℕ} m 0 in
      record {
        as_many = length-take-le n zeros (omega arith) ∙ sym e;
        few = omega arith;
        ranks = λ i d p. absurd (
            let at : get_or (take n zeros) (i - 1) 0 ≡ get_or zeros (i - 1) 0 = get_or-take n zeros (i - 1) 0 (omega (arith, d.from, d.to)) in
            let none : get_or zeros (i - 1) 0 ≡ 0 = get_or-replicate {A = ℕ} m (i - 1) 0 0 (omega (arith, d.from, d.to)) in
            omega arith
            );
      }

  -- one rank more that is known
  pub known_more : {known : List ℕ} {i r : ℕ} → KnownRanks ps known → Declared ps i → HasRank ps i r → KnownRanks ps (set known (i - 1) r)
  known_more {known} {i} {r} k d h = record {
    as_many = length-set known (i - 1) r ∙ k.as_many;
    few = k.few;
    ranks = λ j e l. by j e l (ℕ_discrete j i);
  }
    where
      by : (j : ℕ) → Declared ps j → 0 < get_or (set known (i - 1) r) (j - 1) 0 → Dec (j ≡ i) → HasRank ps j (get_or (set known (i - 1) r) (j - 1) 0)
      by j e l (yes q) = rw (q, get_or-set_same known (i - 1) r 0 (omega (arith, k.as_many, d.from, d.to))) h
      by j e l (no n) =
          let other = get_or-set_other known (i - 1) (j - 1) r 0 (omega (arith, d.from, e.from)) in
          rw other (k.ranks j e (rw other at l))
