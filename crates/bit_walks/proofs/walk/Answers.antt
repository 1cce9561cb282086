-- The loop adds the value of one read a turn.
use mathlib.Core.Path.{refl}
use native.Mathlib.Numerals.{add-one}
use Rattle.bit_walks.specs.Walk.{sum_of}
use Rattle.bit_walks.proofs.walk.Goals as goal

pub loop-i-init : goal.loop-i-init
unfolding sum_of
loop-i-init g c = refl

pub loop-i-preserved : goal.loop-i-preserved
unfolding sum_of
loop-i-preserved g c = rw (c.loop-i.invariant, c.requires.value _ _ _ c.read-sum.ensures, add-one) refl
