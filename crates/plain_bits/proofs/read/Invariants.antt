use mathlib.Core.Path.{◌≡◌}
use Rattle.bits.specs.Bits.{bits_at}
use Rattle.plain_bits.proofs.read.Given as goal

-- the value so far is that of the bits passed
abbrev pub invariant-loop-i : goal.invariant-loop-i
invariant-loop-i l = l.value ≡ bits_at l.bytes l.position l.i
