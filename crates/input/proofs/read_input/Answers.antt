use native.Mathlib.Omega.{arith}
use Rattle.std.proofs.Common.{rules}
use Rattle.std.proofs.lemmas.Grind.{common_steps}
use Rattle.input.proofs.Input.{read_on}
use Rattle.input.proofs.read_input.Goals as goal

pub loop-length-preserved : goal.loop-length-preserved
loop-length-preserved g c =
    let now = c.loop-length.invariant in
    (search rules, read_on _ _ _ _ now.0 c.in-Ok.ensures.bound.0 _ _ _ _ now.1 c.in-Ok.ensures.bytes.0)

pub loop-length-init : goal.loop-length-init
loop-length-init g c = search rules

pub returns-after-loop-length-clause-ended : goal.returns-after-loop-length-clause-ended
returns-after-loop-length-clause-ended g c = search rules

pub returns-in-Ok-eq0-clause-ended : goal.returns-in-Ok-eq0-clause-ended
returns-in-Ok-eq0-clause-ended g c = search rules

pub returns-in-Ok-eq0-clause-read : goal.returns-in-Ok-eq0-clause-read
returns-in-Ok-eq0-clause-read g c = grind (arith, common_steps)

pub returns-in-Err-clause-failed_in_bounds : goal.returns-in-Err-clause-failed_in_bounds
returns-in-Err-clause-failed_in_bounds g c = search rules

pub returns-in-Err-clause-failed_prefix : goal.returns-in-Err-clause-failed_prefix
returns-in-Err-clause-failed_prefix g c = search rules

pub returns-in-Err-clause-failed_read : goal.returns-in-Err-clause-failed_read
returns-in-Err-clause-failed_read g c = grind (arith, common_steps)
