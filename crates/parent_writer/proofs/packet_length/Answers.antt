use native.Mathlib.Omega.{arith}
use Rattle.parent_writer.proofs.Turns.{counted_none, counted_more, counted_all}
use Rattle.parent_writer.proofs.packet_length.Goals as goal

pub loop-i-init : goal.loop-i-init
loop-i-init c = counted_none _ _

pub overflow_add-length : goal.overflow_add-length
overflow_add-length c =
    let at = c.loop-i.invariant in
    let code = c.position_code-code.ensures in
    omega (arith, at.few, code.few, c.requires.few, c.requires.same)

pub loop-i-preserved : goal.loop-i-preserved
loop-i-preserved c = counted_more _ _ c.requires.same c.loop-i-test.true c.position_code-code.ensures c.loop-i.invariant

pub returns : goal.returns
returns c = counted_all _ _ c.loop-i-test.false c.loop-i.invariant
