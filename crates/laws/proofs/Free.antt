-- Law (e): with recording off a reading is that of a recording whose words hold its fields. (The words are then left
-- alone by the definition of `recorded`.)
use Prim.Native.Nat.{ℕ, suc, ◌+◌, ◌-◌, ◌*◌, ◌≤◌}
use mathlib.Core.Path.{◌≡◌, refl, ap}
use mathlib.Core.List.{List}
use mathlib.Core.Bool.{Bool, true, false}
use native.Mathlib.Omega.{arith}
use borrow.Author.Tests.{le-leb}
use lib.ListN.{length}
use lib.Dec.{ltb, leb}
use Rattle.bits.specs.Bits.{bits_at}
use Rattle.rules.specs.declared.Field.{Field}
use Rattle.rules.specs.Rule.{Rule, done, ends, position_then, end_then, bits_then, skip_then, field_then, set_end_then, pick}
use Rattle.rules.specs.Reading.{Reading, Input, reading, with, inside}
use Rattle.laws.proofs.Counted.{counts_most}

-- whatever words are lent
abbrev pub off : List ℕ → ℕ → Input
off bs lent = record { bytes = bs; recording = false; room = lent }

abbrev pub on : List ℕ → ℕ → Input
on bs room = record { bytes = bs; recording = true; room = room }

after : {A : Type 0} (b : Bool) (n room : ℕ) (z x y : Reading A) → 5 * (n + length (pick b z x).fields) ≤ room →
    (5 * (n + length x.fields) ≤ room → y ≡ x) → pick b z y ≡ pick b z x
after true n room z x y h g = refl
after false n room z x y h g = g h

before : {A : Type 0} (b : Bool) (n room : ℕ) (z x y : Reading A) → 5 * (n + length (pick b x z).fields) ≤ room →
    (5 * (n + length x.fields) ≤ room → y ≡ x) → pick b y z ≡ pick b x z
before true n room z x y h g = g h
before false n room z x y h g = refl

noted : {A : Type 0} (n room : ℕ) (f : Field) (z x y : Reading A) → 5 * (n + suc (length x.fields)) ≤ room →
    (5 * (n + 1 + length x.fields) ≤ room → y ≡ x) → pick (leb (5 * n + 5) room) (with f y) z ≡ with f x
noted n room f z x y h g = rw (le-leb (5 * n + 5) room (omega arith)) (ap (with f) (g (omega arith)))

pub free : {A : Type 0} (bs : List ℕ) (lent room : ℕ) (r : Rule A) (p e n : ℕ) → 5 * (n + length (reading (off bs lent) r p e n).fields) ≤ room →
    reading (on bs room) r p e n ≡ reading (off bs lent) r p e n
unfolding reading
free bs lent room (done a) p e n h = refl
free bs lent room (ends x) p e n h = refl
free bs lent room (position_then k) p e n h = free bs lent room (k p) p e n h
free bs lent room (end_then k) p e n h = free bs lent room (k e) p e n h
free bs lent room (bits_then w k) p e n h = after (ltb (e - p) w) n room _ _ _ h (λ g. free bs lent room (k (bits_at bs p w)) (p + w) e n g)
free bs lent room (skip_then w k) p e n h = after (ltb (e - p) w) n room _ _ _ h (λ g. free bs lent room k (p + w) e n g)
free bs lent room (field_then name start v k) p e n h =
    before (ltb n 16384) n room _ _ _ h (λ g. noted n room _ _ _ _ g (λ g. free bs lent room k p e (n + 1) g))
free bs lent room (set_end_then x k) p e n h = before (inside (off bs lent) p x) n room _ _ _ h (λ g. free bs lent room k p x n g)

-- So 81,920 words are enough for every reading.
pub enough : {A : Type 0} (bs : List ℕ) (lent room : ℕ) (r : Rule A) (p e : ℕ) → 81920 ≤ room → reading (on bs room) r p e 0 ≡ reading (off bs lent) r p e 0
enough bs lent room r p e h = free bs lent room r p e 0 (omega (arith, counts_most (off bs lent) r p e))
