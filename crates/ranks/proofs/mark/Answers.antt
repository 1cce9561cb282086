use native.Mathlib.Omega.{arith}
use Rattle.ranks.proofs.Ranks.{computed_rank, rank_few}
use Rattle.ranks.proofs.Walks.{all_left, has_declared, parent_has, known_more}
use Rattle.ranks.proofs.mark.Goals as goal

pub loop-passed-init : goal.loop-passed-init
loop-passed-init c = record { known = c.requires.known; left = all_left _ (computed_rank _ c.requires.rank) }

pub overflow_sub-place : goal.overflow_sub-place
overflow_sub-place c = (has_declared _ c.loop-passed.invariant.left c.loop-passed-test.true).from

pub bounds-known-place : goal.bounds-known-place
bounds-known-place c =
    let d = has_declared _ c.loop-passed.invariant.left c.loop-passed-test.true in
    omega (arith, d.from, d.to, c.loop-passed.invariant.known.as_many)

pub bounds-known-place-in-loop-passed : goal.bounds-known-place-in-loop-passed
bounds-known-place-in-loop-passed c =
    let d = has_declared _ c.loop-passed.invariant.left c.loop-passed-test.true in
    omega (arith, d.from, d.to, c.loop-passed.invariant.known.as_many)

pub offset_bounds-parents-place : goal.offset_bounds-parents-place
offset_bounds-parents-place c = let d = has_declared _ c.loop-passed.invariant.left c.loop-passed-test.true in omega (arith, d.to)

pub bounds-parents-place : goal.bounds-parents-place
bounds-parents-place c = let d = has_declared _ c.loop-passed.invariant.left c.loop-passed-test.true in omega (arith, d.from, d.to)

pub overflow_cast-known : goal.overflow_cast-known
overflow_cast-known c =
    let few = rank_few _ c.loop-passed.invariant.left in
    omega (arith, few, c.loop-passed.invariant.known.few)

pub loop-passed-preserved : goal.loop-passed-preserved
loop-passed-preserved c =
    let at = c.loop-passed in
    let d = has_declared _ at.invariant.left c.loop-passed-test.true in
    record { known = known_more _ at.invariant.known d at.invariant.left; left = parent_has _ at.invariant.left c.loop-passed-test.true }
