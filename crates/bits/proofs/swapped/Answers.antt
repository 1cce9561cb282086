-- The loop moves the lowest byte of what is left behind those that are swapped.
use Prim.Native.Nat.{◌+◌, ◌*◌}
use mathlib.Core.Path.{◌≡◌, ◌∙◌}
use native.Mathlib.Omega.{arith}
use Rattle.bits.specs.Words.{swapped}
use Rattle.bits.proofs.Words.{moved, moved_lt, still_swapped}
use Rattle.bits.proofs.swapped.Goals as goal

pub loop-init : goal.loop-init
unfolding swapped
loop-init c = (omega arith, omega arith)

pub loop-preserved : goal.loop-preserved
loop-preserved c =
    let n = c.loop.counter in
    let rest = c.loop.rest in
    let small = c.loop.invariant.0 in
    rw (moved n rest c.loop-test.true small) (moved_lt n rest small, still_swapped n rest c.loop.swapped c.loop-test.true ∙ c.loop.invariant.1)

pub returns : goal.returns
unfolding swapped
returns c =
    let all : c.loop.counter ≡ 8 = omega arith in
    let same : c.loop.swapped * 1 + 0 ≡ swapped 8 c.args.word = rw all at c.loop.invariant.1 in
    omega (arith, same)
