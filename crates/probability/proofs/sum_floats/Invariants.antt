use Prim.Native.Nat.{◌-◌}
use Rattle.rules.specs.Derived.{fold}
use Rattle.parser.proofs.Left.{Left}
use Rattle.probability.specs.Probability.{add_float, from_bits}
use Rattle.probability.proofs.sum_floats.Given as goal

-- the values from `j` on are left to be read, and those before it come to `sum`
abbrev pub invariant-loop-j : goal.invariant-loop-j
invariant-loop-j l =
    Left (fold (add_float l.q.word) 0 l.n (from_bits 0)) l.initial.parser (fold (add_float l.q.word) l.j (l.n - l.j) l.sum) l.parser
