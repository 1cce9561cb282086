use native.Mathlib.Omega.{arith}
use native.Mathlib.Nat.{sub-zero}
use Rattle.parser.proofs.Left.{left_all}
use Rattle.parser.proofs.Loops.{narrow_at, names_more, values_more, values_ended, values_none}
use Rattle.parser.proofs.Parser.passive_values.Goals as goal

pub loop-width-init : goal.loop-width-init
loop-width-init c = record { names = rw sub-zero c.requires.names; left = left_all }

pub take-requires : goal.take-requires
take-requires c = narrow_at _ c.requires.narrow _ c.loop-width-test.true

pub returns-in-Err : goal.returns-in-Err
returns-in-Err c = values_ended _ _ _ _ c.loop-width.invariant.left c.loop-width-test.true c.take.ensures.met c.in-Err.is

pub overflow_add-at : goal.overflow_add-at
overflow_add-at c = omega (arith, names_more _ _ _ _ c.loop-width-test.true c.loop-width.invariant.names)

pub loop-width-preserved : goal.loop-width-preserved
loop-width-preserved c = record {
  names = names_more _ _ _ _ c.loop-width-test.true c.loop-width.invariant.names;
  left = values_more _ _ _ _ c.loop-width.invariant.left c.loop-width-test.true c.take.ensures.met c.in-Ok.is;
}

pub returns : goal.returns
returns c = values_none _ _ _ _ c.loop-width.invariant.left c.loop-width-test.false
