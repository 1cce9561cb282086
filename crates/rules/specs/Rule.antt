-- Field rules: what is asked of the bits next, and what comes after it.
use Rattle.std.specs.Prelude.{ℕ, Bool, true, false}
use Rattle.rules.specs.declared.FieldValue.{FieldValue}

-- how a reading ends before its rule is done, with document 01's number
pub data End : Type 0 where
  refused : ℕ → End
  stopped : ℕ → End

-- done with a value; ended; or a primitive, and what follows it
pub data Rule (A : Type 0) : Type 0 where
  done : A → Rule A
  ends : End → Rule A
  position_then : (ℕ → Rule A) → Rule A
  end_then : (ℕ → Rule A) → Rule A
  bits_then : ℕ → (ℕ → Rule A) → Rule A
  skip_then : ℕ → Rule A → Rule A
  field_then : ℕ → ℕ → FieldValue → Rule A → Rule A
  set_end_then : ℕ → Rule A → Rule A

infixl 10 ◌>>=◌
unfoldable pub ◌>>=◌ : {A B : Type 0} → Rule A → (A → Rule B) → Rule B
◌>>=◌ (done a) f = f a
◌>>=◌ (ends x) f = ends x
◌>>=◌ (position_then k) f = position_then (λ v. k v >>= f)
◌>>=◌ (end_then k) f = end_then (λ v. k v >>= f)
◌>>=◌ (bits_then w k) f = bits_then w (λ v. k v >>= f)
◌>>=◌ (skip_then w k) f = skip_then w (k >>= f)
◌>>=◌ (field_then name start v k) f = field_then name start v (k >>= f)
◌>>=◌ (set_end_then x k) f = set_end_then x (k >>= f)

abbrev pub ◌>>◌ : {A B : Type 0} → Rule A → Rule B → Rule B
◌>>◌ r k = r >>= (λ _. k)

abbrev pub pick : {A : Type 0} → Bool → A → A → A
pick true a b = a
pick false a b = b

-- The primitives. `BitReader`: the position, the end, `w` bits as a number, `w` bits passed over, an end for what follows.
unfoldable pub position : Rule ℕ
position = position_then done

unfoldable pub end : Rule ℕ
end = end_then done

unfoldable pub bits : ℕ → Rule ℕ
bits w = bits_then w done

unfoldable pub skip : ℕ → Rule (Unit {0})
skip w = skip_then w (done tt)

unfoldable pub set_end : ℕ → Rule (Unit {0})
set_end x = set_end_then x (done tt)

-- `Parser::record`: a field from `start` up to the position
unfoldable pub field : ℕ → ℕ → FieldValue → Rule (Unit {0})
field name start v = field_then name start v (done tt)
