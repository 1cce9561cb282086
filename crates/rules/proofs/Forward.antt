-- Law (f), its first part: a reading never moves back.
use Prim.Native.Nat.{ℕ, ◌+◌, ◌-◌, ◌≤◌}
use native.Mathlib.Omega.{arith}
use lib.Dec.{ltb}
use Rattle.bits.specs.Bits.{bits_at}
use Rattle.rules.specs.Rule.{Rule, done, ends, position_then, end_then, bits_then, skip_then, field_then, set_end_then}
use Rattle.rules.specs.Reading.{Reading, Input, reading, has_room, inside}
use Rattle.rules.proofs.Pick.{by_pick}

abbrev From : {A : Type 0} → ℕ → Reading A → Type 0
From p x = p ≤ x.position

pub forward : {A : Type 0} (i : Input) (r : Rule A) (p e n : ℕ) → p ≤ (reading i r p e n).position
unfolding reading
forward i (done a) p e n = omega arith
forward i (ends x) p e n = omega arith
forward i (position_then k) p e n = forward i (k p) p e n
forward i (end_then k) p e n = forward i (k e) p e n
forward i (bits_then w k) p e n =
    by_pick (From p) (ltb (e - p) w) _ _ (λ _. omega arith) (λ _. omega (arith, forward i (k (bits_at i.bytes p w)) (p + w) e n))
forward i (skip_then w k) p e n = by_pick (From p) (ltb (e - p) w) _ _ (λ _. omega arith) (λ _. omega (arith, forward i k (p + w) e n))
forward i (field_then name start v k) p e n =
    by_pick (From p) (ltb n 16384) _ _
    (λ _. by_pick (From p) (has_room i n) _ _ (λ _. forward i k p e (n + 1)) (λ _. omega arith))
    (λ _. omega arith)
forward i (set_end_then x k) p e n = by_pick (From p) (inside i p x) _ _ (λ _. forward i k p x n) (λ _. omega arith)
