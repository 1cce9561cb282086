use mathlib.Core.Path.{refl, ◌∙◌}
use native.Mathlib.Omega.{arith}
use native.Mathlib.Nat.{sub-zero}
use Rattle.text.proofs.Writes.{all_left, less_left, none_left}
use Rattle.text.proofs.Puts.{room_first}
use Rattle.ranks.specs.Rank.{largest_up_to}
use Rattle.ranks.proofs.Largest.{one_rank, all}
use Rattle.show_lines.specs.Lines.{position_line}
use Rattle.show_lines.proofs.Positions.{position_more, position_end}
use Rattle.show_lines.proofs.put_positions.Goals as goal

pub loop-i-init : goal.loop-i-init
unfolding largest_up_to
loop-i-init c = record { known = c.requires.known; lines = rw sub-zero (all_left c.requires.room); deepest = refl }

pub put_position-requires : goal.put_position-requires
put_position-requires c =
    let here = position_more _ _ c.loop-i-test.true c.rank_or_zero-rank.ensures.rank in
    room_first _ (position_line _ _ _) _ (rw here at c.loop-i.invariant.lines.fits)

pub loop-i-preserved : goal.loop-i-preserved
loop-i-preserved c =
    let before = c.loop-i.invariant in
    let rank = c.rank_or_zero-rank.ensures in
    let here = position_more _ _ c.loop-i-test.true rank.rank in
    record {
      known = rank.known;
      lines = less_left (position_line _ _ _) _ (rw here at before.lines) c.put_position.ensures;
      deepest = c.larger-deepest.ensures ∙ one_rank _ _ before.deepest rank.rank;
    }

pub returns-clause-lines : goal.returns-clause-lines
returns-clause-lines c = none_left (rw (position_end _ _ c.loop-i-test.false) at c.loop-i.invariant.lines)

pub returns-clause-deepest : goal.returns-clause-deepest
returns-clause-deepest c = all _ c.loop-i.invariant.deepest (omega arith)
