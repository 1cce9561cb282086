-- What holds of a memory: that an assertion does, and the assertion that values lie side by side in cells.
use Rattle.std.specs.Prelude.{ℕ, map}
use mir.Syntax.{Width, Ty, ty_int}
use mir.Val.{Val, vint}
use base.Logic.{SProp}
use Rattle.std.specs.Borrow.{Share}
use prog.Memory.{Memory}
use prog.Model.{elems}
use contract.Adequate.{Satisfies}
use borrow.Fn.World.{World}
use Rattle.owner.specs.Cells.{Cells}

module _ (w : World) where
  -- the memory σ is such that P holds of it
  abbrev pub ◌⊨◌ : Memory → SProp w.𝓤 → Type 1
  σ ⊨ P = Satisfies w.𝓤 w.𝓛.H w.𝓜 σ P

  infix 26 ◌⊨◌
  -- a share of the cells, in which the machine's values of the elements lie, each at the type τ
  abbrev pub Laid : {X : Type 0} → Ty → (X → Val) → Share → Cells X → SProp w.𝓤
  Laid τ low q c = elems w.𝓤 w.𝓛.H q τ c.block c.offset (map low c.held)

  -- numbers, of which all or a share is owned
  abbrev pub Numbers : Width → Share → Cells ℕ → SProp w.𝓤
  Numbers n = Laid (ty_int n) (vint n)
