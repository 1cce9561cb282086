-- What a limit keeps of the number of fields: what holds after each field that is counted holds after every reading.
use Prim.Native.Nat.{ℕ, suc, ◌+◌, ◌-◌, ◌≤◌, ◌<◌}
use mathlib.Core.Path.{◌≡◌}
use mathlib.Core.Bool.{true}
use native.Mathlib.Omega.{arith}
use borrow.Author.Tests.{ltb-true}
use lib.ListN.{length}
use lib.Dec.{ltb}
use Rattle.bits.specs.Bits.{bits_at}
use Rattle.rules.specs.Rule.{Rule, done, ends, position_then, end_then, bits_then, skip_then, field_then, set_end_then}
use Rattle.rules.specs.Reading.{Reading, Input, reading, has_room, inside}
use Rattle.rules.proofs.Pick.{by_pick}
use Rattle.std.specs.Prelude as std
use Rattle.rules.specs.declared.reason.Reason.{Reason}
use Rattle.parser.specs.declared.Parser.{Parser}
use Rattle.parser.specs.Met.{Met}

module _ (i : Input) (P : ℕ → Type 0) (one : (n : ℕ) → n < 16384 → has_room i n ≡ true → P (n + 1)) where
  -- after what was counted before and is counted now
  abbrev After : {A : Type 0} → ℕ → Reading A → Type 0
  After n x = P (n + length x.fields)

  none : (n : ℕ) → P n → P (n + 0)
  none n h = let e : n + 0 ≡ n = omega arith in rw e h

  more : (n m : ℕ) → P (n + 1 + m) → P (n + suc m)
  more n m h = let e : n + suc m ≡ n + 1 + m = omega arith in rw e h

  pub counted : {A : Type 0} (r : Rule A) (p e n : ℕ) → P n → P (n + length (reading i r p e n).fields)
  unfolding reading
  counted (done a) p e n h = none n h
  counted (ends x) p e n h = none n h
  counted (position_then k) p e n h = counted (k p) p e n h
  counted (end_then k) p e n h = counted (k e) p e n h
  counted (bits_then w k) p e n h = by_pick (After n) (ltb (e - p) w) _ _ (λ _. none n h) (λ _. counted (k (bits_at i.bytes p w)) (p + w) e n h)
  counted (skip_then w k) p e n h = by_pick (After n) (ltb (e - p) w) _ _ (λ _. none n h) (λ _. counted k (p + w) e n h)
  counted (field_then name start v k) p e n h =
      by_pick (After n) (ltb n 16384) _ _
      (λ l. by_pick (After n) (has_room i n) _ _ (λ q. more n _ (counted k p e (n + 1) (one n (ltb-true _ _ l) q))) (λ _. none n h))
      (λ _. none n h)
  counted (set_end_then x k) p e n h = by_pick (After n) (inside i p x) _ _ (λ _. counted k p x n h) (λ _. none n h)

-- no reading counts more than 16,384 fields
pub counts_most : {A : Type 0} (i : Input) (r : Rule A) (p e : ℕ) → 0 + length (reading i r p e 0).fields ≤ 16384
counts_most i r p e = counted i (λ n. n ≤ 16384) (λ n l _. omega arith) r p e 0 (omega arith)

-- nor does code that meets a rule, on a parser that has not counted more
pub met_most : {A : Type 0} {r : Rule A} {p q : Parser} {x : std.Result A Reason} → Met r p x q → p.fields ≤ 16384 → q.fields ≤ 16384
met_most {r = r} {p = p} m h = rw m.gives.fields (counted _ (λ n. n ≤ 16384) (λ n l _. omega arith) r p.position p.end p.fields h)
