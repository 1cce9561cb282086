use Prim.Native.Nat.{◌*◌}
use mathlib.Core.Path.{◌≡◌}
use Rattle.bits.specs.Bits.{bits_at}
use Rattle.bits.proofs.few_bits.Given as goal

-- the word is that of the bytes passed
abbrev pub invariant-loop-i : goal.invariant-loop-i
invariant-loop-i l = l.word ≡ bits_at l.bytes (8 * l.q) (8 * l.i)
