use native.Mathlib.Omega.{arith}
use Rattle.digits.proofs.Digits.{room_more, digit_more}
use Rattle.digits.proofs.digits_number.Goals as goal

pub overflow_mul-value : goal.overflow_mul-value
overflow_mul-value c = let more = room_more _ _ _ c.requires c.loop-c-test.true c.loop-c.invariant in omega arith

pub overflow_add-value : goal.overflow_add-value
overflow_add-value c =
    let more = room_more _ _ _ c.requires c.loop-c-test.true c.loop-c.invariant in
    let digit = c.type_inv.text c.loop-c.c-index in
    omega arith

pub loop-c-preserved : goal.loop-c-preserved
loop-c-preserved c = rw c.from.ensures (digit_more _ _ _ c.loop-c-test.true (omega arith) (omega arith) c.loop-c.invariant)
