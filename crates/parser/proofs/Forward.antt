-- A reading never moves back, so code never does.
use Prim.Native.Nat.{◌≤◌}
use Rattle.std.specs.Prelude as std
use Rattle.rules.specs.declared.reason.Reason.{Reason}
use Rattle.rules.specs.Rule.{Rule}
use Rattle.rules.proofs.Forward.{forward}
use Rattle.parser.specs.declared.Parser.{Parser}
use Rattle.parser.specs.Met.{Met}

pub met_forward : {A : Type 0} {r : Rule A} {p : Parser} {a : std.Result A Reason} {q : Parser} → Met r p a q → p.position ≤ q.position
met_forward {A} {r} {p} x = rw x.gives.position (forward _ r p.position p.end p.fields)
