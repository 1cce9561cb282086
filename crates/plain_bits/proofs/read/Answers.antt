-- The loop adds one bit a turn.
use mathlib.Core.Path.{refl}
use native.Mathlib.Nat.{add-zero, zero-add}
use native.Mathlib.Omega.{arith}
use Rattle.bits.specs.Bits.{bits_at}
use Rattle.bits.proofs.Laws.{bits_joined}
use Rattle.plain_bits.proofs.read.Goals as goal

pub loop-i-init : goal.loop-i-init
unfolding bits_at
loop-i-init c = refl

pub loop-i-preserved : goal.loop-i-preserved
unfolding bits_at
loop-i-preserved c = bits_joined _ _ _ 1 (omega arith) c.loop-i.invariant (rw (zero-add, add-zero) c.bit.ensures)
