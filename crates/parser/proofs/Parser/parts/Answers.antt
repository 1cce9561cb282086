use mathlib.Core.Path.{◌≡◌}
use native.Mathlib.Omega.{arith}
use borrow.Author.Rules.{rules}
use lib.ListN.{length}
use Rattle.parser.proofs.Left.{left_all}
use Rattle.parser.proofs.Loops.{width_small, part_small, part_more, part_last, part_ended, part_none}
use Rattle.parser.proofs.Parser.parts.Goals as goal

pub loop-width-init : goal.loop-width-init
loop-width-init c = record { small = omega arith; left = left_all }

pub read-requires : goal.read-requires
read-requires c = omega (arith, width_small c.requires _ c.loop-width-test.true)

pub returns-in-Err-clause-met : goal.returns-in-Err-clause-met
returns-in-Err-clause-met c =
    let long : length c.args.widths ≡ 3 = search rules in
    part_ended _ _ _ long c.loop-width.invariant.left c.loop-width-test.true c.read.ensures.met c.in-Err.is

pub overflow_add-value : goal.overflow_add-value
overflow_add-value c = omega (arith, part_small c.requires _ c.loop-width-test.true c.in-Ok.ensures.small)

pub is_full-requires : goal.is_full-requires
is_full-requires c = omega (arith, width_small c.requires _ c.loop-width-test.true)

pub returns-then-not-is_full-clause-met : goal.returns-then-not-is_full-clause-met
returns-then-not-is_full-clause-met c =
    let long : length c.args.widths ≡ 3 = search rules in
    part_last _ _ _ long c.loop-width.invariant.left c.loop-width-test.true c.read.ensures.met c.in-Ok.is c.is_full.ensures c.if-not-is_full.true

pub returns-then-not-is_full-clause-small : goal.returns-then-not-is_full-clause-small
returns-then-not-is_full-clause-small c =
    omega (arith, part_small c.requires _ c.loop-width-test.true c.in-Ok.ensures.small, c.loop-width.invariant.small)

pub loop-width-preserved : goal.loop-width-preserved
loop-width-preserved c =
    let long : length c.args.widths ≡ 3 = search rules in
    record {
      small = omega (arith, part_small c.requires _ c.loop-width-test.true c.in-Ok.ensures.small, c.loop-width.invariant.small);
      left = part_more _ _ _ long c.loop-width.invariant.left c.loop-width-test.true c.read.ensures.met c.in-Ok.is c.is_full.ensures c.if-not-is_full.false;
    }

pub returns-clause-met : goal.returns-clause-met
returns-clause-met c =
    let long : length c.args.widths ≡ 3 = search rules in
    part_none _ _ _ long c.loop-width.invariant.left c.loop-width-test.false

pub returns-clause-small : goal.returns-clause-small
returns-clause-small c = omega (arith, c.loop-width.invariant.small, c.loop-width.auto.width-index-end)
