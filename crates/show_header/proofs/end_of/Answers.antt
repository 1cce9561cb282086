use mathlib.Core.Path.{sym, ◌∙◌}
use native.Mathlib.Omega.{arith}
use Rattle.show_header.proofs.Sound.{end_next, end_last}
use Rattle.show_header.proofs.end_of.Goals as goal

pub returns-then-k-part_count : goal.returns-then-k-part_count
returns-then-k-part_count c = c.offset_of.ensures ∙ sym (end_next _ _ (omega (arith, c.if-k-part_count.true, c.part_count.ensures)))

pub returns : goal.returns
returns c = sym (end_last _ _ (omega (arith, c.if-k-part_count.false, c.part_count.ensures)))
