-- Of n + 1 numbers below n two are the same.
use Prim.Native.Nat.{ℕ, zero, suc, ◌≤◌, ◌<◌}
use mathlib.Core.Path.{◌≡◌, refl, sym, ◌∙◌, ap}
use mathlib.Core.Logic.{◌⊎◌, inl, inr, ⊎_elim, ◌≢◌}
use native.Mathlib.Omega.{arith}
use native.Mathlib.Decide.{ℕ_discrete}

-- two places of f up to n that hold the same
pub record Twice (f : ℕ → ℕ) (n : ℕ) : Type 0 where
  pub first : ℕ
  pub again : ℕ
  pub later : first < again
  pub within : again ≤ n
  pub same : f first ≡ f again

-- v is among the first n values of f, or not
find : (f : ℕ → ℕ) (v n : ℕ) → ((a : ℕ) × (a < n) × (f a ≡ v)) ⊎ ((a : ℕ) → a < n → f a ≢ v)
find f v zero = inr (λ a l e. omega arith)
find f v (suc n) = step (ℕ_discrete (f n) v) (find f v n)
  where
    step : Dec (f n ≡ v) → ((a : ℕ) × (a < n) × (f a ≡ v)) ⊎ ((a : ℕ) → a < n → f a ≢ v) → ((a : ℕ) × (a < suc n) × (f a ≡ v)) ⊎ ((a : ℕ) → a < suc n → f a ≢ v)
    step (yes e) r = inl (n, omega arith, e)
    step (no d) (inl r) = inl (r.0, omega arith, r.2)
    step (no d) (inr r) = inr (λ a l e. last a l e (ℕ_discrete a n))
      where
        last : (a : ℕ) → a < suc n → f a ≡ v → Dec (a ≡ n) → ⊥
        last a l e (yes q) = d (ap f (sym q) ∙ e)
        last a l e (no q) = r a (omega arith) e

-- x, with v in the place of m
record Swapped (m v x : ℕ) : Type 0 where
  to : ℕ
  how : ((x ≡ m) × (to ≡ v)) ⊎ ((x ≢ m) × (to ≡ x))

swap : (m v x : ℕ) → Swapped m v x
swap m v x = by (ℕ_discrete x m)
  where
    by : Dec (x ≡ m) → Swapped m v x
    by (yes e) = record { to = v; how = inl (e, refl) }
    by (no d) = record { to = x; how = inr (d, refl) }

module _ (m : ℕ) (f : ℕ → ℕ) (h : (k : ℕ) → k ≤ suc m → f k < suc m) where
  found : ((a : ℕ) × (a < suc m) × (f a ≡ f (suc m))) → Twice f (suc m)
  found r = record { first = r.0; again = suc m; later = r.1; within = omega arith; same = r.2 }

  module _ (none : (a : ℕ) → a < suc m → f a ≢ f (suc m)) where
    g : ℕ → ℕ
    g k = (swap m (f (suc m)) (f k)).to

    g_how : (k : ℕ) → ((f k ≡ m) × (g k ≡ f (suc m))) ⊎ ((f k ≢ m) × (g k ≡ f k))
    unfolding g
    g_how k = (swap m (f (suc m)) (f k)).how

    g_below : (k : ℕ) → k ≤ m → g k < m
    g_below k l =
        ⊎_elim
        (λ w. let n = none k (omega arith) in omega (arith, h (suc m) (omega arith)))
        (λ w. omega (arith, h k (omega arith)))
        (g_how k)

    back : Twice g m → Twice f (suc m)
    back t = record {
      first = t.first;
      again = t.again;
      later = t.later;
      within = omega arith;
      same = by (g_how t.first) (g_how t.again);
    }
      where
        by : ((f t.first ≡ m) × (g t.first ≡ f (suc m))) ⊎ ((f t.first ≢ m) × (g t.first ≡ f t.first))
            → ((f t.again ≡ m) × (g t.again ≡ f (suc m))) ⊎ ((f t.again ≢ m) × (g t.again ≡ f t.again))
            → f t.first ≡ f t.again
        by (inl u) (inl w) = omega arith
        by (inl u) (inr w) = let n = none t.again (omega arith) in omega (arith, t.same)
        by (inr u) (inl w) = let n = none t.first (omega arith) in omega (arith, t.same)
        by (inr u) (inr w) = omega (arith, t.same)

pub pigeons : (n : ℕ) (f : ℕ → ℕ) → ((k : ℕ) → k ≤ n → f k < n) → Twice f n
pigeons zero f h = absurd (let l = h 0 (omega arith) in omega arith)
pigeons (suc m) f h =
    ⊎_elim (found m f h) (λ none. back m f h none (pigeons m (g m f h none) (g_below m f h none))) (find f (f (suc m)) (suc m))
