use borrow.Author.Rules.{rules}
use Rattle.position.specs.Shape.{default}
use Rattle.positions.specs.Positions.{positions}
use Rattle.positions.proofs.Loops.{reached_none, next_at, reached_more, reached_ended, reached_all}
use Rattle.positions.proofs.positions.Goals as goal

pub loop-i-init : goal.loop-i-init
loop-i-init c = reached_none _ _ _

pub position_at-requires-clause-shaped : goal.position_at-requires-clause-shaped
position_at-requires-clause-shaped c =
    let same = next_at _ _ _ default c.loop-i.invariant in
    rw same (c.requires.by_index _ c.loop-i-test.true)

pub returns-in-loop-i : goal.returns-in-loop-i
unfolding positions
returns-in-loop-i c = reached_ended _ _ _ default c.loop-i.invariant c.loop-i-test.true c.position_at.ensures (search rules)

pub loop-i-preserved : goal.loop-i-preserved
loop-i-preserved c = reached_more _ _ _ default c.loop-i.invariant c.loop-i-test.true c.position_at.ensures (search rules)

pub returns : goal.returns
unfolding positions
returns c = reached_all _ _ _ default c.loop-i.invariant c.loop-i-test.false (search rules)
