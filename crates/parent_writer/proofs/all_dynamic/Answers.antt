use mathlib.Core.Path.{refl}
use Rattle.parent_writer.proofs.Turns.{dynamic_on, fixed, dynamic_all}
use Rattle.parent_writer.proofs.all_dynamic.Goals as goal

pub loop-i-init : goal.loop-i-init
loop-i-init c = refl

pub returns-then-not-may_get : goal.returns-then-not-may_get
returns-then-not-may_get c = fixed _ _ c.requires c.loop-i-test.true c.may_get.ensures c.loop-i.invariant c.if-not-may_get.true

pub loop-i-preserved : goal.loop-i-preserved
loop-i-preserved c = dynamic_on _ _ c.requires c.loop-i-test.true c.may_get.ensures c.loop-i.invariant c.if-not-may_get.false

pub returns : goal.returns
returns c = dynamic_all _ _ c.loop-i-test.false c.loop-i.invariant
