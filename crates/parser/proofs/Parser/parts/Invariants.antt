use Prim.Native.Nat.{◌≤◌, ◌*◌, ◌^◌}
use lib.ListN.{drop}
use Rattle.rules.specs.Derived.{parts}
use Rattle.parser.proofs.Left.{Left}
use Rattle.parser.proofs.Parser.parts.Given as goal

-- the parts passed are in the value, and those from `width-index` on are left to be read
abbrev pub invariant-loop-width : goal.invariant-loop-width
invariant-loop-width l = record {
  small : l.value ≤ l.width-index * 2 ^ 20;
  left : Left (parts 0 l.width-items) l.initial.self (parts l.value (drop l.width-index l.width-items)) l.self;
}
