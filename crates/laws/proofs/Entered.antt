-- A whole call: it is refused before its rule, or it is the reading of its rule from the offset on.
use Prim.Native.Nat.{ℕ, ◌+◌, ◌-◌, ◌*◌, ◌≤◌}
use mathlib.Core.Path.{◌≡◌, refl}
use mathlib.Core.Logic.{◌⊎◌, inl, inr}
use native.Mathlib.Omega.{arith}
use borrow.Author.Tests.{le-leb, le-ltb, eq-eqb}
use lib.Dec.{ltb, leb, eqb}
use lib.ListN.{length}
use Rattle.rules.specs.Rule.{Rule, done, ends, End, refused, ◌>>=◌, set_end, skip}
use Rattle.rules.specs.Reading.{Reading, Input, reading, ended_at, inside}
use Rattle.rules.specs.Derived.{demand, entry}
use Rattle.rules.specs.Answer.{entry_reading}
use Rattle.rules.proofs.Pick.{by_pick}

module _ {A : Type 0} (i : Input) (offset : ℕ) (r : Rule A) where
  abbrev pub from_offset : Reading A
  from_offset = reading i r offset (8 * length i.bytes) 0

  pub record EndedAtOnce (x : Reading A) : Type 0 where
    pub how : End
    pub at : ℕ
    pub end : ℕ
    pub refused : x ≡ ended_at how at end

  abbrev pub RefusedOrFrom : Reading A → Type 0
  RefusedOrFrom x = EndedAtOnce x ⊎ (x ≡ from_offset)

  at_once : (x : End) (p e : ℕ) → RefusedOrFrom (ended_at x p e)
  at_once x p e = inl (record { how = x; at = p; end = e; refused = refl })

  pub entered : (own : ℕ) → RefusedOrFrom (entry_reading i own offset r)
  unfolding reading entry demand set_end skip ◌>>=◌
  entered own =
      let size = length i.bytes in
      let here : 0 + offset ≡ offset = omega arith in
      by_pick (λ q. RefusedOrFrom (reading i (q >>= (λ _. demand (eqb own 0) (refused own) >>= (λ _. set_end (8 * size) >>= (λ _. skip offset))) >>= (λ _. r)) 0 0 0))
      (leb size 8388608) (done tt) (ends (refused 1)) (λ _.
      by_pick (λ q. RefusedOrFrom (reading i (q >>= (λ _. set_end (8 * size) >>= (λ _. skip offset)) >>= (λ _. r)) 0 0 0))
      (eqb own 0) (done tt) (ends (refused own)) (λ _.
      by_pick RefusedOrFrom (inside i 0 (8 * size)) _ _ (λ _. by_pick RefusedOrFrom (ltb (8 * size - 0) offset) _ _ (λ _. at_once _ _ _) (λ _. inr (rw here refl)))
      (λ _. at_once _ _ _))
      (λ _. at_once _ _ _))
      (λ _. at_once _ _ _)

  -- where its questions are met it is not refused
  pub entered_met : (own : ℕ) → own ≡ 0 → length i.bytes ≤ 8388608 → offset ≤ 8 * length i.bytes → entry_reading i own offset r ≡ from_offset
  unfolding entry demand set_end skip ◌>>=◌ reading
  entered_met own q h l =
      let a : 0 ≤ 8 * length i.bytes = omega arith in
      let b : 8 * length i.bytes ≤ 8 * length i.bytes = omega arith in
      let c : offset ≤ 8 * length i.bytes - 0 = omega arith in
      let here : 0 + offset ≡ offset = omega arith in
      rw (le-leb _ _ h, eq-eqb own 0 q, le-leb _ _ a, le-leb _ _ b, le-ltb _ _ c, here) refl
