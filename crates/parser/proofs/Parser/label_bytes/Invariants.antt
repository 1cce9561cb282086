use Prim.Native.Nat.{◌-◌}
use Rattle.rules.specs.Derived.{label_bytes}
use Rattle.parser.proofs.Left.{Left}
use Rattle.parser.proofs.Parser.label_bytes.Given as goal

-- `n` bytes are passed, none of them zero, and the rest of the rule is left
abbrev pub invariant-loop-n : goal.invariant-loop-n
invariant-loop-n l = Left (label_bytes 4097 0) l.initial.self (label_bytes (4097 - l.n) l.n) l.self
