use mathlib.Core.Path.{sym, ◌∙◌}
use native.Mathlib.Nat.{sub-zero}
use Rattle.show_header.proofs.Sound.{in_order_more, in_order_broken, in_order_end}
use Rattle.show_header.proofs.in_order.Goals as goal

pub loop-k-init : goal.loop-k-init
loop-k-init c = rw sub-zero

pub returns-then-end_of-offset_of : goal.returns-then-end_of-offset_of
returns-then-end_of-offset_of c =
    let broken = in_order_broken _ _ _ c.loop-k-test.true c.offset_of.ensures c.end_of.ensures c.if-end_of-offset_of.true in
    sym broken ∙ c.loop-k.invariant

pub loop-k-preserved : goal.loop-k-preserved
loop-k-preserved c =
    in_order_more _ _ _ c.loop-k-test.true c.offset_of.ensures c.end_of.ensures c.if-end_of-offset_of.false ∙ c.loop-k.invariant

pub returns : goal.returns
returns c = sym (in_order_end _ _ _ c.loop-k-test.false) ∙ c.loop-k.invariant
