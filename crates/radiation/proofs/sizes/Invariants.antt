use Prim.Native.Nat.{◌-◌, ◌*◌, ◌≤◌, ◌^◌}
use Rattle.rules.specs.Derived.{fold}
use Rattle.parser.proofs.Left.{Left}
use Rattle.radiation.specs.Radiation.{size, sizes}
use Rattle.radiation.proofs.sizes.Given as goal

-- the sizes from `i` on are left to be read and added to the entries, of which there are few
abbrev pub invariant-loop-i : goal.invariant-loop-i
invariant-loop-i l = record {
  small : l.entries ≤ 2 ^ 22 * l.i;
  left : Left (sizes l.p.word l.count) l.initial.parser (fold (size l.p.word) l.i (l.count - l.i) l.entries) l.parser;
}
