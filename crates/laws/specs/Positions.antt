-- The terms in which a refusal's position is said.
use Rattle.std.specs.Prelude.{ℕ, zero, suc, ◌+◌, ◌-◌, ◌≤◌, ◌≡◌, List, [], ◌∷◌, true}
use Rattle.bits.specs.Bits.{bits_at}
use Rattle.rules.specs.Derived.{is_full}

-- parts of these widths from bit `p` on, all there before the end `e`, and each all ones
abbrev pub Ones : List ℕ → ℕ → ℕ → List ℕ → Type 0
Ones bytes e p [] = Unit {0}
Ones bytes e p (u ∷ us) = (u ≤ e - p) × (is_full (bits_at bytes p u) u ≡ true) × Ones bytes e (p + u) us

-- how many bits they are
abbrev pub total : List ℕ → ℕ
total [] = 0
total (u ∷ us) = u + total us

-- so many bytes from bit `p` on, all there before the end `e`, and none of them zero
abbrev pub NonZero : List ℕ → ℕ → ℕ → ℕ → Type 0
NonZero bytes e p zero = Unit {0}
NonZero bytes e p (suc c) = (8 ≤ e - p) × (bits_at bytes p 8 ≡ 0 → ⊥) × NonZero bytes e (p + 8) c
