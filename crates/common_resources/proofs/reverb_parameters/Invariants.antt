use Prim.Native.Nat.{◌-◌}
use Rattle.rules.specs.Derived.{fold}
use Rattle.parser.proofs.Left.{Left}
use Rattle.common_resources.specs.Common.{reverb_parameter, reverb_parameters}
use Rattle.common_resources.proofs.reverb_parameters.Given as goal

-- the parameters from `i` on are left to be read
abbrev pub invariant-loop-i : goal.invariant-loop-i
invariant-loop-i l = Left (reverb_parameters l.p.word l.from l.to) l.initial.parser (fold (λ k _. reverb_parameter l.p.word k) l.i (l.to - l.i) tt) l.parser
