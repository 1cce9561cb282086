use Prim.Native.Nat.{◌+◌, ◌-◌, ◌*◌}
use Rattle.rules.specs.Name.{third}
use Rattle.parser.proofs.Left.{Left}
use Rattle.extensions.specs.Extensions.{extensions}
use Rattle.extensions.proofs.extensions.Given as goal

-- the extensions from `i` on are left to be read
abbrev pub invariant-loop-i : goal.invariant-loop-i
invariant-loop-i l = Left (extensions 32 l.p.word) l.initial.parser (extensions (32 - l.i) (l.p.word + third * l.i)) l.parser
