-- Law (f): a position never moves back, nor past the window, nor past the bytes.
use Prim.Native.Nat.{ℕ, ◌+◌, ◌-◌, ◌*◌, ◌≤◌}
use mathlib.Core.Path.{◌≡◌, refl}
use mathlib.Core.Bool.{Bool, true, false, ◌&&◌}
use native.Mathlib.Omega.{arith}
use borrow.Author.Tests.{ltb-false, leb-true}
use lib.ListN.{length}
use lib.Dec.{ltb, leb}
use Rattle.bits.specs.Bits.{bits_at}
use Rattle.rules.specs.Rule.{Rule, done, ends, position_then, end_then, bits_then, skip_then, field_then, set_end_then}
use Rattle.rules.specs.Reading.{Reading, Input, reading, has_room, inside}
use Rattle.rules.specs.Answer.{entry_then, entry_reading}
use Rattle.laws.specs.Stays.{Stays}
use Rattle.rules.proofs.Pick.{by_pick}
use Rattle.rules.proofs.Forward.{forward}
use Rattle.rules.proofs.Laws.{never}

-- what is left to show beside `forward`
record Within {A : Type 0} (i : Input) (x : Reading A) : Type 0 where
  window : x.position ≤ x.end
  bytes : x.end ≤ 8 * length i.bytes

both : (a b : Bool) → (a && b) ≡ true → (a ≡ true) × (b ≡ true)
both true b h = (refl, h)
both false b h = never h refl

within : {A : Type 0} (i : Input) (r : Rule A) (p e n : ℕ) → p ≤ e → e ≤ 8 * length i.bytes → Within i (reading i r p e n)
unfolding reading
within i (done a) p e n h g = record { window = h; bytes = g }
within i (ends x) p e n h g = record { window = h; bytes = g }
within i (position_then k) p e n h g = within i (k p) p e n h g
within i (end_then k) p e n h g = within i (k e) p e n h g
within i (bits_then w k) p e n h g =
    by_pick (Within i) (ltb (e - p) w) _ _ (λ _. record { window = h; bytes = g })
    (λ q. within i (k (bits_at i.bytes p w)) (p + w) e n (omega (arith, ltb-false (e - p) w q)) g)
within i (skip_then w k) p e n h g =
    by_pick (Within i) (ltb (e - p) w) _ _ (λ _. record { window = h; bytes = g }) (λ q. within i k (p + w) e n (omega (arith, ltb-false (e - p) w q)) g)
within i (field_then name start v k) p e n h g =
    let t = within i k p e (n + 1) h g in
    by_pick (Within i) (ltb n 16384) _ _
    (λ _. by_pick (Within i) (has_room i n) _ _ (λ _. record { window = t.window; bytes = t.bytes }) (λ _. record { window = h; bytes = g }))
    (λ _. record { window = h; bytes = g })
within i (set_end_then x k) p e n h g =
    by_pick (Within i) (inside i p x) _ _
    (λ q. let z = both (leb p x) (leb x (8 * length i.bytes)) q in within i k p x n (leb-true _ _ z.0) (leb-true _ _ z.1))
    (λ _. record { window = h; bytes = g })

pub stays : {A : Type 0} (i : Input) (r : Rule A) (p e n : ℕ) → p ≤ e → e ≤ 8 * length i.bytes → Stays i p (reading i r p e n)
stays i r p e n h g = let w = within i r p e n h g in record { forward = forward i r p e n; window = w.window; bytes = w.bytes }

-- so a whole call ends at a bit of the bytes
pub entry_place : {A : Type 0} (i : Input) (own offset : ℕ) (r : Rule A) → (entry_reading i own offset r).position ≤ 8 * length i.bytes
entry_place i own offset r =
    let s = stays i (entry_then (length i.bytes) own offset r) 0 0 0 (omega arith) (omega arith) in
    omega (arith, s.window, s.bytes)
