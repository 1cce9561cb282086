use mathlib.Core.Path.{refl}
use native.Mathlib.Omega.{arith}
use lib.ListN.{length-set}
use Rattle.validation.proofs.Lists.{one_more, all_copied}
use Rattle.lent.proofs.array_of.Goals as goal

pub returns-then-shapes-gt-POSITIONS : goal.returns-then-shapes-gt-POSITIONS
returns-then-shapes-gt-POSITIONS c = λ few. absurd (omega arith)

pub loop-i-preserved : goal.loop-i-preserved
loop-i-preserved c =
    let at = c.loop-i in
    record { long = simp length-set at.invariant.long; same = one_more _ _ at.i _ (omega arith) (omega arith) at.invariant.same }

pub returns : goal.returns
returns c = λ few. all_copied _ _ c.loop-i.i _ (omega arith) refl c.loop-i.invariant.same
