use mathlib.Core.Path.{sym}
use native.Mathlib.Omega.{arith}
use Rattle.validation.proofs.Lists.{one_more, all_copied}
use Rattle.lent.proofs.write_back.Goals as goal

pub loop-i-preserved : goal.loop-i-preserved
loop-i-preserved c = let at = c.loop-i in sym (one_more _ _ at.i _ (omega arith) (omega arith) (sym at.invariant))

pub returns : goal.returns
returns c = sym (all_copied _ _ c.loop-i.i _ (omega arith) c.loop-i.auto.shapes c.loop-i.invariant)
