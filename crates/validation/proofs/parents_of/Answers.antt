use native.Mathlib.Omega.{arith}
use Rattle.validation.proofs.Lists.{one_parent, all_parents}
use Rattle.validation.proofs.parents_of.Goals as goal

pub loop-i-preserved : goal.loop-i-preserved
loop-i-preserved c = let at = c.loop-i in one_parent _ _ at.i (omega arith) (omega arith) at.invariant

pub returns : goal.returns
returns c = all_parents _ _ c.loop-i.i (omega arith) (omega arith) c.loop-i.invariant
