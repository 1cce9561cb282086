use mathlib.Core.List.{[], ◌∷◌}
use Rattle.text.specs.Text.{decimal}
use Rattle.text.proofs.Puts.{room_first}
use Rattle.text.proofs.Writes.{fits_next, wrote_both}
use Rattle.name_row.specs.Row.{character}
use Rattle.name_row.proofs.Characters.{character_bracket, character_plain}
use Rattle.name_row.proofs.put_character.Goals as goal

pub put_byte-requires : goal.put_byte-requires
unfolding character
put_byte-requires c = room_first _ (c.args.c ∷ []) _ c.requires

pub put_decimal-requires : goal.put_decimal-requires
put_decimal-requires c =
    fits_next (c.args.c ∷ []) (decimal c.args.i) c.put_byte.ensures (rw (character_bracket c.args.c c.args.i c.if-c-eq91.true) at c.requires)

pub returns-then-c-eq91 : goal.returns-then-c-eq91
returns-then-c-eq91 c = rw (character_bracket c.args.c c.args.i c.if-c-eq91.true) (wrote_both c.put_byte.ensures c.put_decimal.ensures)

pub returns-else-c-eq91 : goal.returns-else-c-eq91
returns-else-c-eq91 c = rw (character_plain c.args.c c.args.i c.if-c-eq91.false) c.put_byte.ensures
