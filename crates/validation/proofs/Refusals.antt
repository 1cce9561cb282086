-- Demand 3's last sentence, of any rule that gives shapes and has them validated: a reading that is otherwise read to its
-- end is refused for its parents exactly if no ranks exist for the parents that it would give.
use Prim.Native.Nat.{ℕ}
use mathlib.Core.Path.{◌≡◌, refl, sym, ◌∙◌, subst}
use mathlib.Core.List.{List}
use mathlib.Core.Bool.{Bool, true, false}
use mathlib.Core.Logic.Iff
use mathlib.Core.Logic.{◌↔◌, ⊎_elim}
use native.Mathlib.Omega.{arith}
use native.Mathlib.Decide.{ℕ_discrete}
use borrow.Author.Tests.{ne_eqb}
use lib.Dec.{eqb}
use Rattle.rules.specs.Rule.{Rule, done, End, refused, ◌>>=◌, pick}
use Rattle.rules.specs.Reading.{Result, read, ended, Input, reading}
use Rattle.rules.specs.Derived.{demand}
use Rattle.rules.specs.Answer.{outcome_of}
use Rattle.rules.proofs.Bind.{bind}
use Rattle.position.specs.declared.PositionSyntax.{PositionSyntax}
use Rattle.ranks.specs.Rank.{verdict, HaveRanks, ForParents}
use Rattle.validation.specs.Validation.{parents, validate_graph, if_valid, RefusedForParents}
use Rattle.ranks.proofs.Ranks.{accepts, for_parents}

-- what shapes come to by their number
abbrev by_number : {A : Type 0} → ℕ → A → Result A
by_number n a = pick (eqb n 0) (read a) (ended (refused n))

not_read : {A : Type 0} {z : End} {a : A} → ended z ≡ read a → ⊥
not_read q = let z : ◌≡◌ {A = ℕ} 0 1 = cc in omega arith

demanded : {A : Type 0} (a : A) (i : Input) (ok : Bool) (z : End) (p e n : ℕ) →
    (reading i (demand ok z >>= (λ _. done a)) p e n).result ≡ pick ok (read a) (ended z)
unfolding reading demand ◌>>=◌
demanded a i true z p e n = refl
demanded a i false z p e n = refl

-- it is refused for them exactly if the number is one of theirs
not_zero : ForParents 0 → ⊥
not_zero f = ⊎_elim (λ e. omega arith) (λ e. omega arith) f

by_number_lem : {A : Type 0} (n : ℕ) (a : A) → RefusedForParents (outcome_of (by_number n a)) ↔ ForParents n
by_number_lem n a = by (ℕ_discrete n 0)
  where
    by : Dec (n ≡ 0) → RefusedForParents (outcome_of (by_number n a)) ↔ ForParents n
    by (yes e) = rw e (λ z. absurd z, not_zero)
    by (no d) = rw (ne_eqb _ _ d) Iff.rfl

module _ (i : Input) (r : Rule (List PositionSyntax)) (p e n : ℕ) where
  -- a rule that is read to its end is left to its number; one that has ended stays so
  whole : (next : List PositionSyntax) → (reading i r p e n).result ≡ read next →
      (reading i (r >>= if_valid) p e n).result ≡ by_number (verdict (parents next)) next
  unfolding validate_graph
  whole next h = rw (bind i r if_valid p e n, h) (demanded next i _ _ _ _ _)

  cut : (z : End) → (reading i r p e n).result ≡ ended z → (reading i (r >>= if_valid) p e n).result ≡ ended z
  cut z h = rw (bind i r if_valid p e n, h)

  pub refused_for_parents : (next : List PositionSyntax) → (reading i r p e n).result ≡ read next →
      RefusedForParents (outcome_of (reading i (r >>= if_valid) p e n).result) ↔ (¬ HaveRanks (parents next))
  refused_for_parents next h = rw (whole next h) (Iff.trans (by_number_lem (verdict (parents next)) next) (for_parents (parents next)))

  -- and shapes that it gives have ranks
  pub read_has_ranks : (l : List PositionSyntax) → (reading i (r >>= if_valid) p e n).result ≡ read l → HaveRanks (parents l)
  read_has_ranks l h = by (reading i r p e n).result refl
    where
      numbered : (next : List PositionSyntax) → Dec (verdict (parents next) ≡ 0) → by_number (verdict (parents next)) next ≡ read l → HaveRanks (parents l)
      numbered next (yes z) q =
          let same : read next ≡ read l = rw z at q in
          let e : next ≡ l = cc in
          subst (λ (k : List PositionSyntax). HaveRanks (parents k)) e (accepts (parents next) z)
      numbered next (no d) q = absurd (not_read (rw (ne_eqb _ _ d) at q))

      by : (x : Result (List PositionSyntax)) → (reading i r p e n).result ≡ x → HaveRanks (parents l)
      by (read next) q = numbered next (ℕ_discrete _ 0) (sym (whole next q) ∙ h)
      by (ended z) q = absurd (not_read (sym (cut z q) ∙ h))
