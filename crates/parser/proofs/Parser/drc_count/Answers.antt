use Prim.Native.Nat.{ℕ, ◌<◌, ◌≤◌}
use native.Mathlib.Omega.{arith}
use Rattle.std.specs.Prelude as std
use Rattle.std.specs.Prelude.{Ok, Err, IfOk}
use Rattle.rules.specs.declared.reason.Reason.{Reason}
use Rattle.rules.specs.Derived.{drc_count}
use Rattle.parser.proofs.Laws.{readings}
use Rattle.parser.proofs.Parser.drc_count.Goals as goal

pub returns-in-Err-clause-met : goal.returns-in-Err-clause-met
unfolding drc_count
returns-in-Err-clause-met c = search readings depth 14

pub returns-clause-met : goal.returns-clause-met
unfolding drc_count
returns-clause-met c = search readings depth 14

below : {n m : ℕ} (x : std.Result ℕ Reason) → IfOk x (λ a. (a < 4097) × (a ≤ n)) → n < m → IfOk x (λ a. a < m)
below (Ok a) h l = omega (arith, h.1)
below (Err e) h l = tt

pub returns-clause-small : goal.returns-clause-small
returns-clause-small c = below c.count.result c.count.ensures.small c.in-Ok.ensures.small
