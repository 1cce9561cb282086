use Prim.Native.Nat.{◌+◌, ◌-◌, ◌*◌, ◌<◌, ◌^◌}
use lib.ListN.{length, drop}
use Rattle.rules.specs.Derived.{passive_values}
use Rattle.parser.proofs.Left.{Left}
use Rattle.parser.proofs.Parser.passive_values.Given as goal

-- the numbers from `width-index` on are left to be read, and their names are small
abbrev pub invariant-loop-width : goal.invariant-loop-width
invariant-loop-width l = record {
  names : l.at + l.step * (length l.widths - l.width-index) < 2 ^ 64;
  left : Left (passive_values l.name l.step l.widths) l.initial.self (passive_values l.at l.step (drop l.width-index l.widths)) l.self;
}
