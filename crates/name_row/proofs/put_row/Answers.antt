use mathlib.Core.Path.{◌≡◌}
use mathlib.Core.Logic.{◌⊎◌, inl, inr}
use lib.ListN.{get_or, drop_of_length-le}
use Rattle.text.proofs.Puts.{room_first}
use Rattle.text.proofs.Writes.{all_left, less_left, none_left}
use Rattle.name_row.specs.Row.{character, indexed}
use Rattle.name_row.proofs.Characters.{at_blank, at_character, next_index}
use Rattle.name_row.proofs.put_row.Goals as goal
use Rattle.name_row.proofs.put_row.Goals.{then-c-eq91, else-c-eq91}

pub loop-c-init : goal.loop-c-init
loop-c-init c = all_left c.requires

pub returns-then-c-eq32 : goal.returns-then-c-eq32
returns-then-c-eq32 c = none_left (rw (at_blank _ _ _ _ c.loop-c-test.true c.if-c-eq32.true) at c.loop-c.invariant)

pub put_character-requires : goal.put_character-requires
put_character-requires c =
    let row = c.args.row.now in
    let here = at_character row c.loop-c.c-index c.loop-c.index c.args.j c.loop-c-test.true c.if-c-eq32.false in
    room_first _ (character (get_or row c.loop-c.c-index 0) c.loop-c.index) _ (rw here at c.loop-c.invariant).fits

pub loop-c-preserved : goal.loop-c-preserved
loop-c-preserved c =
    let row = c.args.row.now in
    let k = c.loop-c.c-index in
    let j = c.args.j in
    let inside = c.loop-c-test.true in
    let here = at_character row k c.loop-c.index j inside c.if-c-eq32.false in
    let rest = less_left _ _ (rw here at c.loop-c.invariant) c.put_character.ensures in
    let index : ((get_or row k 0 ≡ 91) × (c.if-c-eq91.index ≡ j)) ⊎ ((get_or row k 0 ≡ 91 → ⊥) × (c.if-c-eq91.index ≡ c.loop-c.index)) =
    elim c.if-c-eq91.branch [ then-c-eq91 w ↦ inl (w.if-c-eq91.true, w.index-is) | else-c-eq91 w ↦ inr (w.if-c-eq91.false, w.index-is) ]
    in
    rw (next_index row k c.loop-c.index j inside c.if-c-eq91.index index) at rest

pub returns : goal.returns
unfolding indexed
returns c = none_left (rw (drop_of_length-le _ c.loop-c-test.false) at c.loop-c.invariant)
