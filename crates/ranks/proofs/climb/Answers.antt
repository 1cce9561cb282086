use mathlib.Core.Path.{sym}
use native.Mathlib.Omega.{arith}
use Rattle.ranks.proofs.Ranks.{rank_few}
use Rattle.ranks.proofs.Walks.{begins, goes_on, meets, ends, leaves}
use Rattle.ranks.proofs.Walks as walk
use Rattle.ranks.proofs.climb.Goals as goal

pub loop-passed-init : goal.loop-passed-init
loop-passed-init c = begins _ _

pub returns-then-at-eq0 : goal.returns-then-at-eq0
returns-then-at-eq0 c = sym (ends _ c.loop-passed.invariant c.if-at-eq0.true)

pub returns-then-at-parents : goal.returns-then-at-parents
returns-then-at-parents c = sym (leaves _ c.loop-passed.invariant c.if-at-parents.true)

pub overflow_add-result : goal.overflow_add-result
overflow_add-result c =
    let few = rank_few _ (c.requires.ranks c.loop-passed.at (record { from = omega arith; to = omega arith }) (omega arith)) in
    omega (arith, few)

pub returns-then-rank-gt0 : goal.returns-then-rank-gt0
returns-then-rank-gt0 c =
    sym (meets _ c.loop-passed.invariant (c.requires.ranks c.loop-passed.at (record { from = omega arith; to = omega arith }) (omega arith)))

pub loop-passed-preserved : goal.loop-passed-preserved
loop-passed-preserved c = goes_on _ c.loop-passed.invariant (record { from = omega arith; to = omega arith })

pub returns : goal.returns
returns c = sym (walk.returns _ (omega arith) c.loop-passed.invariant)
