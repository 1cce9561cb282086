use Prim.Native.Nat.{◌-◌}
use mathlib.Core.Path.{◌≡◌}
use Rattle.show_header.specs.Header.{in_order}
use Rattle.show_header.proofs.in_order.Given as goal

-- the parts before `k` are in order
abbrev pub invariant-loop-k : goal.invariant-loop-k
invariant-loop-k l = in_order l.file (l.count - l.k) l.k ≡ in_order l.file l.count 0
