-- Rules that make a field of all bits that they read, in order, each bit once.
use Rattle.std.specs.Prelude.{ℕ, ◌+◌, ◌≤◌, ◌≡◌, ◌⊎◌, List, [], ◌∷◌}
use Rattle.rules.specs.declared.Field.{Field}
use Rattle.rules.specs.Rule.{Rule, done, ends, position_then, end_then, bits_then, skip_then, field_then, set_end_then, End}
use Rattle.rules.specs.Reading.{Reading, Result, read, ended}

-- from the position `p`, with the bits from `f` on not yet in a field
unfoldable pub Tiles : {A : Type 0} → ℕ → ℕ → Rule A → Type 0
Tiles f p (done a) = f ≡ p
Tiles f p (ends x) = Unit {0}
Tiles f p (position_then k) = Tiles f p (k p)
Tiles f p (end_then k) = (e : ℕ) → Tiles f p (k e)
Tiles f p (bits_then w k) = (v : ℕ) → Tiles f (p + w) (k v)
Tiles f p (skip_then w k) = Tiles f (p + w) k
Tiles f p (field_then name start v k) = (start ≡ f) × Tiles p p k
Tiles f p (set_end_then x k) = Tiles f p k

pub record Tiling {A : Type 0} (r : Rule A) : Type 0 where
  pub tiles : (p : ℕ) → Tiles p p r

-- fields one after the other from bit `a` to bit `b`
unfoldable pub Covers : ℕ → List Field → ℕ → Type 0
Covers a [] b = a ≡ b
Covers a (f ∷ fs) b = (f.bit_offset ≡ a) × Covers (a + f.bit_length) fs b

-- how long they are together
unfoldable pub lengths : List Field → ℕ
lengths [] = 0
lengths (f ∷ fs) = f.bit_length + lengths fs

-- up to the position of a reading that was read, and no further than that of one that ended
abbrev pub Reaches : {A : Type 0} → Result A → ℕ → ℕ → Type 0
Reaches (read a) b p = b ≡ p
Reaches (ended x) b p = b ≤ p

pub record Covered {A : Type 0} (f : ℕ) (x : Reading A) : Type 0 where
  pub up_to : ℕ
  pub covers : Covers f x.fields up_to
  pub reaches : Reaches x.result up_to x.position

-- no field, of a reading that ended
pub record Fieldless {A : Type 0} (x : Reading A) : Type 0 where
  pub none : x.fields ≡ []
  pub how : End
  pub ended_so : x.result ≡ ended how

-- of a whole call: covered from its offset on, or ended with no field, as where a question of the call is not met
abbrev pub CallCovered : {A : Type 0} → ℕ → Reading A → Type 0
CallCovered offset x = Fieldless x ⊎ Covered offset x
