-- The number goes behind the bits that wait, and each turn of the loop makes a byte of the first eight of them.
use Prim.Native.Nat.{◌+◌, ◌-◌, ◌/◌, ◌^◌}
use mathlib.Core.Path.{◌≡◌, refl}
use native.Mathlib.Omega.{arith}
use lib.ListN.{length-set}
use lib.Pow.{pow_pos, shr_lt}
use Rattle.bits.proofs.Laws.{one_shifted}
use Rattle.bit_writer.proofs.Writes.{moved_none, byte_there, moved_more, wrote}
use Rattle.bit_writer.proofs.BitWriter.write.Goals as goal

pub loop-held-init : goal.loop-held-init
loop-held-init c = moved_none _ _ _ c.requires.narrow c.requires.small c.requires.fits

pub overflow_shr-self : goal.overflow_shr-self
overflow_shr-self c = omega (arith, c.loop-held.invariant.few)

pub overflow_cast-self : goal.overflow_cast-self
overflow_cast-self c =
    let eight : 8 + (c.loop-held.held - 8) ≡ c.loop-held.held = omega arith in
    let byte = shr_lt {n = c.loop-held.waiting} 8 (c.loop-held.held - 8) (rw eight c.loop-held.invariant.small) in
    omega arith

pub bounds-self-self : goal.bounds-self-self
bounds-self-self c = byte_there c.loop-held.invariant c.loop-held-test.true

pub invariant_of-self-clause-full_in : goal.invariant_of-self-clause-full_in
invariant_of-self-clause-full_in c =
    let there = byte_there c.loop-held.invariant c.loop-held-test.true in
    let at = c.loop-held.self in
    let long = length-set at.bytes.now at.full (c.loop-held.waiting / 2 ^ (c.loop-held.held - 8)) in
    omega arith

pub overflow_shl-waiting-in-loop-held : goal.overflow_shl-waiting-in-loop-held
overflow_shl-waiting-in-loop-held c = omega (arith, c.loop-held.invariant.few)

pub overflow_sub-waiting : goal.overflow_sub-waiting
overflow_sub-waiting c =
    let few = c.loop-held.invariant.few in
    rw (one_shifted (c.loop-held.held - 8) (omega arith)) (pow_pos (c.loop-held.held - 8))

pub loop-held-preserved : goal.loop-held-preserved
loop-held-preserved c = moved_more c.loop-held.invariant (omega arith) refl refl refl

pub invariant_of-self-2 : goal.invariant_of-self-2
invariant_of-self-2 c = record {
  held_few = omega arith;
  waiting_small = c.loop-held.invariant.small;
  full_in = omega (arith, c.loop-held.invariant.room);
}

pub returns : goal.returns
returns c = wrote c.loop-held.invariant refl refl refl refl refl
