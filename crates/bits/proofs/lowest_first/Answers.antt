-- The loop puts each byte above the ones before it.
use mathlib.Core.Path.{refl}
use Rattle.bits.specs.Words.{lowest_first}
use Rattle.bits.proofs.Words.{gathered}
use Rattle.bits.proofs.lowest_first.Goals as goal

pub loop-n-init : goal.loop-n-init
unfolding lowest_first
loop-n-init c = refl

pub loop-n-preserved : goal.loop-n-preserved
loop-n-preserved c = gathered c.args.bytes.now c.args.q c.loop-n.n c.loop-n-test.true c.loop-n.invariant c.byte.ensures
