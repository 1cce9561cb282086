use Prim.Native.Nat.{◌-◌, ◌≤◌, ◌*◌, ◌^◌}
use Rattle.rules.specs.Derived.{fold}
use Rattle.parser.proofs.Left.{Left}
use Rattle.probability.specs.Probability.{add_integer}
use Rattle.probability.proofs.sum_integers.Given as goal

-- the values from `j` on are left to be read, and those before it come to `sum`, which is small
abbrev pub invariant-loop-j : goal.invariant-loop-j
invariant-loop-j l = record {
  small : l.sum ≤ 2 ^ 32 * l.j;
  left : Left (fold (add_integer l.q.word l.width) 0 l.n 0) l.initial.parser (fold (add_integer l.q.word l.width) l.j (l.n - l.j) l.sum) l.parser;
}
