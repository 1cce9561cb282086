-- In the environment of the linked program demand 3 holds, with nothing taken for granted, and there are an accepted scene and a list
-- of calls after it, in the library and in the show.
use mathlib.Core.List.{List}
use prog.Memory.{Memory}
use borrow.Fn.World.{World}
use Rattle.position.specs.declared.PositionSyntax.{PositionSyntax}
use Rattle.book.specs.Book.{Setting}
use Rattle.claims.specs.Calls.{Call, Accepted, SentAll}
use Rattle.claims.specs.Demand.{Demand3}
use Rattle.claims.proofs.Demand.{demand3}
use Rattle.claims.proofs.Worked.{packets, worked}
use Rattle.linked.proofs.Linked.{linked}

pub demand3_linked : (w : World) → Demand3 w linked.0
demand3_linked w = demand3 w linked.0 linked.1.readings

pub worked_linked : (w : World) (x : Setting) →
    ∥ ((c : Call) × (s : List PositionSyntax) × (ρ : Memory) × Accepted w linked.0 x c s ρ × SentAll w linked.0 x packets ρ s) ∥₁
worked_linked w = worked w linked.0 linked.1.readings
