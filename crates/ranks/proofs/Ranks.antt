-- What computed chains and numbers mean: which positions have a rank, and that validation accepts exactly if all have one.
use Prim.Native.Nat.{ℕ, zero, suc, ◌+◌, ◌-◌, ◌<◌, ◌≤◌}
use mathlib.Core.Path.{◌≡◌, refl, sym, ◌∙◌, ap, subst}
use mathlib.Core.List.{List}
use mathlib.Core.Logic.{◌⊎◌, inl, inr, ⊎_elim, ◌≢◌, ◌↔◌}
use native.Mathlib.Omega.{arith}
use native.Mathlib.Nat.{zero-add, suc-add, add-zero}
use native.Mathlib.Numerals.{add-one}
use native.Mathlib.Decide.{ℕ_discrete, dec_lt}
use lib.ListN.{length}
use Rattle.std.specs.Prelude.{Ok, Err}
use Rattle.rules.specs.declared.reason.Reason.{Reason}
use Rattle.rules.specs.declared.reason.Reason.TheVariants.{ParentUndeclared, ParentsInCircle}
use Rattle.ranks.specs.Rank.{Chain, parent_of, Declared, RankRule, Ranks, HaveRanks, above, Passes, HasRank, GoesOut, GoesRound, Ranked, RankedBefore, Judged, all_ranked, first_out, first_round, ForParents, rank_in, rank_of, climb, chain, on_chain, judge, verdict}
use Rattle.ranks.proofs.Pigeons.{Twice, pigeons}
use Rattle.ranks.proofs.Chains.{climb_none, climb_end, climb_out, climb_up}

module _ (ps : List ℕ) where
  -- Chains, one number further and one number less.

  pub above_zero : (i : ℕ) → above ps 0 i ≡ i
  unfolding above
  above_zero i = refl

  pub above_add : (m k i : ℕ) → above ps (m + k) i ≡ above ps k (above ps m i)
  unfolding above
  above_add zero k i = rw zero-add
  above_add (suc m) k i = rw suc-add (above_add m k (parent_of ps i))

  passes_more : {i k : ℕ} → Declared ps i → Passes ps k (parent_of ps i) → Passes ps (suc k) i
  unfolding above
  passes_more d p zero l = d
  passes_more d p (suc j) l = p j (omega arith)

  passes_less : (i k : ℕ) → Passes ps (suc k) i → Passes ps k (parent_of ps i)
  unfolding above
  passes_less i k p j l = p (suc j) (omega arith)

  rank_more : {i r : ℕ} → Declared ps i → HasRank ps (parent_of ps i) r → HasRank ps i (suc r)
  unfolding above
  rank_more d h = record { passes = passes_more d h.passes; ends = h.ends }

  pub rank_less : {i r : ℕ} → HasRank ps i (suc r) → HasRank ps (parent_of ps i) r
  unfolding above
  rank_less h = record { passes = passes_less _ _ h.passes; ends = h.ends }

  rank_zero : HasRank ps 0 0
  rank_zero = record { passes = λ j l. absurd (omega arith); ends = above_zero 0 }

  out_now : {i : ℕ} → length ps < i → GoesOut ps i
  out_now {i} l = record { at = 0; passes = λ j m. absurd (omega arith); beyond = subst (λ (x : ℕ). length ps < x) (sym (above_zero i)) l }

  out_more : {i : ℕ} → Declared ps i → GoesOut ps (parent_of ps i) → GoesOut ps i
  unfolding above
  out_more d h = record { at = suc h.at; passes = passes_more d h.passes; beyond = h.beyond }

  round_more : {i : ℕ} → Declared ps i → GoesRound ps (parent_of ps i) → GoesRound ps i
  unfolding above
  round_more d g = record { first = suc g.first; again = suc g.again; later = omega (arith, g.later); passes = passes_more d g.passes; same = g.same }

  -- what a chain is found to do when `f` of its numbers are looked at, after `k` positions
  data Found (f k i : ℕ) : Chain → Type 0 where
    ends : {m : ℕ} → HasRank ps i m → Found f k i (Ok (k + m))
    leaves : GoesOut ps i → Found f k i (Err ParentUndeclared)
    goes_on : Passes ps f i → Found f k i (Err ParentsInCircle)

  found_more : {f k i : ℕ} {c : Chain} → Declared ps i → Found f (suc k) (parent_of ps i) c → Found (suc f) k i c
  found_more {f} {k} {i} d (ends {m} h) =
      let e : k + suc m ≡ suc k + m = omega arith in
      subst (λ (n : ℕ). Found (suc f) k i (Ok n)) e (ends (rank_more d h))
  found_more d (leaves h) = leaves (out_more d h)
  found_more d (goes_on h) = goes_on (passes_more d h)

  found : (f k i : ℕ) → Found f k i (climb ps f k i)
  found zero k i = rw (climb_none ps 0 k i refl) (goes_on (λ j l. absurd (omega arith)))
  found (suc f) k i = at (ℕ_discrete i 0) (dec_lt (length ps) i) (λ d. found_more d (found f (suc k) (parent_of ps i)))
    where
      at : Dec (i ≡ 0) → Dec (length ps < i) → (Declared ps i → Found (suc f) k i (climb ps f (suc k) (parent_of ps i))) →
          Found (suc f) k i (climb ps (suc f) k i)
      at (yes e) q up =
          rw (climb_end ps (suc f) k i (omega arith) e, e)
          (subst (λ (n : ℕ). Found (suc f) k 0 (Ok n)) (add-zero k) (ends rank_zero))
      at (no n) (yes l) up = rw (climb_out ps (suc f) k i (omega arith) l) (leaves (out_now l))
      at (no n) (no m) up =
          let d : Declared ps i = record { from = omega arith; to = omega arith } in
          rw (climb_up ps f k i d) (up d)

  -- what the chain of a number does
  data Does (i : ℕ) : Chain → Type 0 where
    ends : {r : ℕ} → HasRank ps i r → Does i (Ok r)
    leaves : GoesOut ps i → Does i (Err ParentUndeclared)
    returns : GoesRound ps i → Does i (Err ParentsInCircle)

  -- one number more than there are positions cannot all be different
  pub goes_round : (i : ℕ) → Passes ps (suc (length ps)) i → GoesRound ps i
  goes_round i p =
      from (pigeons (length ps) (λ k. above ps k i - 1) (λ k l. omega (arith, (p k (omega arith)).from, (p k (omega arith)).to)))
    where
      from : Twice (λ k. above ps k i - 1) (length ps) → GoesRound ps i
      from t = record {
        first = t.first;
        again = t.again;
        later = t.later;
        passes = λ j l. p j (omega (arith, t.within));
        same = omega (arith, t.same, (p t.first (omega (arith, t.within, t.later))).from, (p t.again (omega (arith, t.within))).from);
      }

  does_by : {i : ℕ} {c : Chain} → Found (suc (length ps)) 0 i c → Does i c
  does_by {i} (ends {m} h) = subst (λ (n : ℕ). Does i (Ok n)) (sym (zero-add m)) (ends h)
  does_by (leaves h) = leaves h
  does_by {i} (goes_on h) = returns (goes_round i h)

  does : (i : ℕ) → Does i (chain ps i)
  does i = does_by (found (suc (length ps)) 0 i)

  -- A chain does one thing only: it stops at the first number that is no position.
  record Stops (i k : ℕ) : Type 0 where
    passes : Passes ps k i
    past : ¬ Declared ps (above ps k i)

  rank_stops : {i r : ℕ} → HasRank ps i r → Stops i r
  rank_stops h = record { passes = h.passes; past = λ d. omega (arith, h.ends, d.from) }

  out_stops : {i : ℕ} (o : GoesOut ps i) → Stops i o.at
  out_stops o = record { passes = o.passes; past = λ d. omega (arith, o.beyond, d.to) }

  once : {i a b : ℕ} → Stops i a → Stops i b → a ≡ b
  once {i} {a} {b} p q = by (dec_lt a b) (dec_lt b a)
    where
      by : Dec (a < b) → Dec (b < a) → a ≡ b
      by (yes l) m = absurd (p.past (q.passes a l))
      by (no n) (yes l) = absurd (q.past (p.passes b l))
      by (no n) (no m) = omega arith

  pub rank_unique : {i r s : ℕ} → HasRank ps i r → HasRank ps i s → r ≡ s
  rank_unique a b = once (rank_stops a) (rank_stops b)

  pub out_no_rank : {i r : ℕ} → GoesOut ps i → HasRank ps i r → ⊥
  out_no_rank {i} o h =
      let same = ap (λ (k : ℕ). above ps k i) (once (rank_stops h) (out_stops o)) in
      omega (arith, o.beyond, same, h.ends)

  -- a chain that returns has positions only: past its return it is as it was before
  again : {i : ℕ} (g : GoesRound ps i) (k : ℕ) → above ps (g.first + k) i ≡ above ps (g.again + k) i
  again {i} g k = above_add g.first k i ∙ ap (λ (x : ℕ). above ps k x) g.same ∙ sym (above_add g.again k i)

  stays : {i : ℕ} → GoesRound ps i → (b k : ℕ) → k < b → Declared ps (above ps k i)
  stays g zero k l = absurd (omega arith)
  stays {i} g (suc b) k l = by (dec_lt g.again k) (stays g b (g.first + (k - g.again)))
    where
      by : Dec (g.again < k) → (g.first + (k - g.again) < b → Declared ps (above ps (g.first + (k - g.again)) i)) → Declared ps (above ps k i)
      by (yes m) before =
          let e : g.again + (k - g.again) ≡ k = omega arith in
          subst (Declared ps) (again g (k - g.again) ∙ ap (λ (x : ℕ). above ps x i) e) (before (omega (arith, g.later)))
      by (no n) before = g.passes k (omega arith)

  pub round_no_rank : {i r : ℕ} → GoesRound ps i → HasRank ps i r → ⊥
  round_no_rank {i} {r} g h = (rank_stops h).past (stays g (suc r) r (omega arith))

  out_no_round : {i : ℕ} → GoesOut ps i → GoesRound ps i → ⊥
  out_no_round o g = (out_stops o).past (stays g (suc o.at) o.at (omega arith))

  -- Ranks as demand 3 has them: given for all positions, they are what each has by its chain.
  pub ranks_has : {rank : ℕ → ℕ} → Ranks ps rank → (r i : ℕ) → Declared ps i → rank i ≡ r → HasRank ps i r
  ranks_has {rank} law zero i d e = absurd (⊎_elim (λ w. omega (arith, w.1)) (λ w. omega (arith, w.1)) (law i d))
  ranks_has {rank} law (suc r) i d e = by (λ p. ranks_has law r (parent_of ps i) p) (law i d)
    where
      by : (Declared ps (parent_of ps i) → rank (parent_of ps i) ≡ r → HasRank ps (parent_of ps i) r) → RankRule ps rank i → HasRank ps i (suc r)
      by up (inl w) =
          let z : r ≡ 0 = omega (arith, w.1) in
          rw z (rank_more d (rw w.0 rank_zero))
      by up (inr w) = rank_more d (up w.0 (omega (arith, w.1)))

  pub rank_pos : {i : ℕ} (r : ℕ) → 0 < i → HasRank ps i r → 0 < r
  rank_pos {i} zero p h = absurd (omega (arith, h.ends, above_zero i))
  rank_pos (suc r) p h = omega arith

  pub rank_computed : {i r : ℕ} → HasRank ps i r → chain ps i ≡ Ok r
  rank_computed {i} {r} h = by (does i)
    where
      by : {c : Chain} → Does i c → c ≡ Ok r
      by (ends g) = ap Ok (rank_unique g h)
      by (leaves g) = absurd (out_no_rank g h)
      by (returns g) = absurd (round_no_rank g h)

  pub out_computed : {i : ℕ} → GoesOut ps i → chain ps i ≡ Err ParentUndeclared
  out_computed {i} o = by (does i)
    where
      by : {c : Chain} → Does i c → c ≡ Err ParentUndeclared
      by (ends g) = absurd (out_no_rank o g)
      by (leaves g) = refl
      by (returns g) = absurd (out_no_round o g)

  pub round_computed : {i : ℕ} → GoesRound ps i → chain ps i ≡ Err ParentsInCircle
  round_computed {i} o = by (does i)
    where
      by : {c : Chain} → Does i c → c ≡ Err ParentsInCircle
      by (ends g) = absurd (round_no_rank o g)
      by (leaves g) = absurd (out_no_round g o)
      by (returns g) = refl

  pub computed_rank : {i r : ℕ} → Ok r ≡ chain ps i → HasRank ps i r
  computed_rank {i} {r} e = by (does i) e
    where
      by : {c : Chain} → Does i c → Ok r ≡ c → HasRank ps i r
      by (ends {r = s} g) q = let same : s ≡ r = cc in subst (HasRank ps i) same g
      by (leaves g) q = absurd (let z : ◌≡◌ {A = ℕ} 0 1 = cc in omega arith)
      by (returns g) q = absurd (let z : ◌≡◌ {A = ℕ} 0 1 = cc in omega arith)

  -- a chain that ends has each position once
  pub rank_few : {i r : ℕ} → HasRank ps i r → r ≤ length ps
  rank_few {i} {r} h = by (dec_lt (length ps) r)
    where
      by : Dec (length ps < r) → r ≤ length ps
      by (yes l) = absurd (round_no_rank (goes_round i (λ j m. h.passes j (omega arith))) h)
      by (no n) = omega arith

  -- the chain of a position by that of its parent, which is `c`
  module _ {i : ℕ} {c : Chain} (d : Declared ps i) (is : c ≡ chain ps (parent_of ps i)) where
    pub parent_ends : {r : ℕ} → c ≡ Ok r → HasRank ps i (r + 1)
    parent_ends e = rw add-one (rank_more d (computed_rank (sym e ∙ is)))

    pub parent_fits : {m r : ℕ} → length ps < m → c ≡ Ok r → r + 1 < m
    parent_fits l e = let few = rank_few (parent_ends e) in omega (arith, few)

    pub parent_ended : {e : Reason} → c ≡ Err e → Err e ≡ chain ps i
    parent_ended {e} m = by (does (parent_of ps i)) (sym m ∙ is)
      where
        by : {x : Chain} → Does (parent_of ps i) x → Err e ≡ x → Err e ≡ chain ps i
        by (ends g) q = absurd (let z : ◌≡◌ {A = ℕ} 0 1 = cc in omega arith)
        by (leaves g) q = q ∙ sym (out_computed (out_more d g))
        by (returns g) q = q ∙ sym (round_computed (round_more d g))

  -- and the ranks that the positions have by their chains are ranks for all
  pub has_ranks : ((i : ℕ) → Declared ps i → Ranked ps i) → Ranks ps (rank_of ps)
  has_ranks all i d = by (all i d).0 (all i d).1 (ℕ_discrete (parent_of ps i) 0)
    where
      is : {j s : ℕ} → HasRank ps j s → rank_of ps j ≡ s
      is h = ap rank_in (rank_computed h)

      by : (r : ℕ) → HasRank ps i r → Dec (parent_of ps i ≡ 0) → RankRule ps (rank_of ps) i
      by r h (yes e) = inl (e, is (rank_more d (rw e rank_zero)))
      by zero h (no n) = absurd (omega (arith, rank_pos 0 d.from h))
      by (suc r) h (no n) =
          let up : HasRank ps (parent_of ps i) r = rank_less h in
          let p : 0 < r = rank_pos r (omega arith) up in
          inr (subst (Declared ps) (above_zero (parent_of ps i)) (up.passes 0 p), is h ∙ ap suc (sym (is up)))

  -- The number.
  before_more : {i r : ℕ} → RankedBefore ps i → HasRank ps i r → RankedBefore ps (suc i)
  before_more {i} {r} s h j d l = by (ℕ_discrete j i)
    where
      by : Dec (j ≡ i) → Ranked ps j
      by (yes e) = (r, rw e h)
      by (no n) = s j d (omega arith)

  judged_from : (n i : ℕ) → i + n ≡ length ps → RankedBefore ps (suc i) → Judged ps (judge ps n i)
  unfolding judge
  judged_from zero i e s = all_ranked (λ j d. s j d (omega (arith, d.to))) refl
  judged_from (suc n) i e s = by (does (suc i)) (λ r h. judged_from n (suc i) (omega arith) (before_more s h))
    where
      here : Declared ps (suc i)
      here = record { from = omega arith; to = omega arith }

      by : {c : Chain} → Does (suc i) c → ((r : ℕ) → HasRank ps (suc i) r → Judged ps (judge ps n (suc i))) →
          Judged ps (on_chain c (judge ps n (suc i)))
      by (ends {r} h) go = go r h
      by (leaves h) go = first_out (suc i) here s h refl
      by (returns h) go = first_round (suc i) here s h refl

  pub verdict_judged : Judged ps (verdict ps)
  unfolding verdict
  verdict_judged = judged_from (length ps) 0 (zero-add (length ps)) (λ j d l. absurd (omega (arith, d.from)))

  pub number_cases : (verdict ps ≡ 0) ⊎ ForParents (verdict ps)
  number_cases = by verdict_judged
    where
      by : {n : ℕ} → Judged ps n → (n ≡ 0) ⊎ ForParents n
      by (all_ranked h q) = inl q
      by (first_out i d h g q) = inr (inl q)
      by (first_round i d h g q) = inr (inr q)

  -- validation accepts exactly if every position has a rank
  pub accepts : verdict ps ≡ 0 → HaveRanks ps
  accepts e = by verdict_judged
    where
      by : Judged ps (verdict ps) → HaveRanks ps
      by (all_ranked h q) = (rank_of ps, has_ranks h)
      by (first_out i d h g q) = absurd (omega arith)
      by (first_round i d h g q) = absurd (omega arith)

  -- where ranks exist, those that the chains give are ranks
  pub chain_ranks : HaveRanks ps → Ranks ps (rank_of ps)
  chain_ranks w = has_ranks (λ i d. (w.0 i, ranks_has w.1 (w.0 i) i d refl))

  pub refuses : verdict ps ≢ 0 → HaveRanks ps → ⊥
  refuses e w = by verdict_judged
    where
      has : (i : ℕ) → Declared ps i → HasRank ps i (w.0 i)
      has i d = ranks_has w.1 (w.0 i) i d refl

      by : Judged ps (verdict ps) → ⊥
      by (all_ranked h q) = e q
      by (first_out i d h g q) = out_no_rank g (has i d)
      by (first_round i d h g q) = round_no_rank g (has i d)

  pub for_parents : ForParents (verdict ps) ↔ (¬ HaveRanks ps)
  for_parents = (
    λ f. refuses (λ z. ⊎_elim (λ q. omega arith) (λ q. omega arith) f),
    λ n. ⊎_elim (λ z. absurd (n (accepts z))) (λ f. f) number_cases,
  )

  -- It is the only one, as there is one lowest-numbered position without a rank.
  apart : (i j : ℕ) → Declared ps i → Declared ps j → RankedBefore ps i → RankedBefore ps j → GoesOut ps i → GoesRound ps j → ⊥
  apart i j d e h k o g = by (dec_lt i j) (dec_lt j i)
    where
      by : Dec (i < j) → Dec (j < i) → ⊥
      by (yes l) m = out_no_rank o (k i d l).1
      by (no n) (yes l) = round_no_rank g (h j e l).1
      by (no n) (no m) = let q : i ≡ j = omega arith in out_no_round o (rw q g)

  pub judged_unique : {n m : ℕ} → Judged ps n → Judged ps m → n ≡ m
  judged_unique (all_ranked h q) (all_ranked k p) = q ∙ sym p
  judged_unique (all_ranked h q) (first_out j e k f p) = absurd (out_no_rank f (h j e).1)
  judged_unique (all_ranked h q) (first_round j e k f p) = absurd (round_no_rank f (h j e).1)
  judged_unique (first_out i d h g q) (all_ranked k p) = absurd (out_no_rank g (k i d).1)
  judged_unique (first_out i d h g q) (first_out j e k f p) = q ∙ sym p
  judged_unique (first_out i d h g q) (first_round j e k f p) = absurd (apart i j d e h k g f)
  judged_unique (first_round i d h g q) (all_ranked k p) = absurd (round_no_rank g (k i d).1)
  judged_unique (first_round i d h g q) (first_out j e k f p) = absurd (apart j i e d k h f g)
  judged_unique (first_round i d h g q) (first_round j e k f p) = q ∙ sym p
