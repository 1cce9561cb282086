-- A byte shifted until the bit is the lowest, and the rest masked off; past the end it is 0.
use mathlib.Core.Path.{refl}
use native.Mathlib.Nat.{zero-div, zero-mod}
use lib.Bits.{and_mask}
use lib.ListN.{get_or-eq_default}
use Rattle.bits.specs.Bits.{bit_at}
use Rattle.plain_bits.proofs.bit.Goals as goal

pub returns-then-k-bytes : goal.returns-then-k-bytes
unfolding bit_at
returns-then-k-bytes c = and_mask _ 1

pub returns : goal.returns
unfolding bit_at
returns c = rw (get_or-eq_default c.args.bytes.now 0 c.if-k-bytes.false, zero-div, zero-mod) refl
