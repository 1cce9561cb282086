-- What the machine does, with nothing of the logic in it: a call that returns, loads and stores one place after another, and
-- what an owner's own writes make of a memory.
use Rattle.std.specs.Prelude.{ℕ, ◌+◌, ◌<◌, ◌^◌, ◌≡◌, List, [], ◌∷◌, T}
use Rattle.std.proofs.Math.Option.{some}
use mir.Syntax.{Width, Ty}
use mir.Val.{Val, has_ty, bits, WT}
use prog.Memory.{Memory, load_m, store_m, alloc_m, size}
use prog.Machine.{done}
use prog.Routine.{Routine, step}

-- called on the values vs from the memory σ, the routine returns v and leaves the memory ρ
abbrev pub Ran : Routine → List Val → Memory → Val → Memory → Type 0
Ran f vs σ v ρ = (n : ℕ) × (step f n vs σ ≡ done (v, ρ))

-- the loads of a type, one place after another, give these values
abbrev pub Loads : Memory → Ty → ℕ → ℕ → List Val → Type 0
Loads σ τ b o [] = Unit {0}
Loads σ τ b o (u ∷ us) = (load_m σ τ b o ≡ some u) × Loads σ τ b (o + size τ) us

-- the stores of these values of a type, one place after another, lead from the memory σ to ρ
abbrev pub Stores : Memory → Ty → ℕ → ℕ → List Val → Memory → Type 0
Stores σ τ b o [] ρ = σ ≡ ρ
Stores σ τ b o (u ∷ us) ρ = (next : Memory) × (store_m σ τ b o u ≡ some next) × Stores next τ b (o + size τ) us ρ

-- ρ is what stores and new blocks made of σ
pub data Writes : Memory → Memory → Type 0 where
  nothing : {σ : Memory} → Writes σ σ
  store : {σ ρ : Memory} (τ : Ty) (b o : ℕ) (v : Val) (next : Memory) → store_m σ τ b o v ≡ some next → Writes next ρ → Writes σ ρ
  alloc : {σ ρ : Memory} (τ : Ty) → Writes (alloc_m σ τ) ρ → Writes σ ρ

-- each is a value of the type
abbrev pub AllOf : Ty → List Val → Type 0
AllOf τ [] = Unit {0}
AllOf τ (u ∷ us) = (T (has_ty τ u) × WT u) × AllOf τ us

-- each is a number of the width
abbrev pub AllBelow : Width → List ℕ → Type 0
AllBelow w [] = Unit {0}
AllBelow w (x ∷ xs) = (x < 2 ^ bits w) × AllBelow w xs
