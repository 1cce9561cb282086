use mathlib.Core.Path.{sym, ◌∙◌}
use Rattle.show_header.proofs.Sound.{no_parts, too_many, first_broken, first_kept}
use Rattle.show_header.proofs.is_sound.Goals as goal

pub returns-then-count-lt1 : goal.returns-then-count-lt1
returns-then-count-lt1 c = sym (no_parts _ c.part_count-count.ensures c.if-count-lt1.true)

pub returns-then-count-gt-PARTS : goal.returns-then-count-gt-PARTS
returns-then-count-gt-PARTS c = sym (too_many _ c.part_count-count.ensures c.if-count-lt1.false c.if-count-gt-PARTS.true)

pub returns-then-offset_of-count : goal.returns-then-offset_of-count
returns-then-offset_of-count c =
    sym (first_broken _ c.part_count-count.ensures c.offset_of.ensures c.if-count-lt1.false c.if-count-gt-PARTS.false c.if-offset_of-count.true)

pub returns : goal.returns
returns c =
    let kept = first_kept _ c.part_count-count.ensures c.offset_of.ensures c.if-count-lt1.false c.if-count-gt-PARTS.false c.if-offset_of-count.false in
    c.in_order.ensures ∙ sym kept
