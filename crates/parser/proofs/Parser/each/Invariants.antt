use Prim.Native.Nat.{ℕ, ◌-◌}
use Rattle.rules.specs.Rule.{Rule}
use Rattle.rules.specs.Derived.{fold, repeat}
use Rattle.parser.proofs.Left.{Left}
use Rattle.parser.specs.Each.{EachMet}
use Rattle.parser.proofs.Parser.each.Given as goal

-- the numbers from `i` on are left
abbrev pub invariant-loop-i : goal.invariant-loop-i
invariant-loop-i g l =
    (rule : ℕ → Rule (Unit {0})) → EachMet (goal.F-post g l.f) rule l.n →
    Left (repeat rule l.n) l.initial.self (fold (λ j _. rule j) l.i (l.n - l.i) tt) l.self
