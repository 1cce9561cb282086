use Rattle.text.proofs.Writes.{fits_next, writes}
use Rattle.text.specs.Text.{ascii}
use Rattle.outcome_lines.proofs.put_ended.Goals as goal

pub put_number-requires : goal.put_number-requires
put_number-requires c = search writes

pub put_number-requires-2 : goal.put_number-requires-2
unfolding ascii
put_number-requires-2 c = search writes

pub put-requires : goal.put-requires
unfolding ascii
put-requires c = let rest = fits_next _ _ c.put_number.ensures c.requires in search writes

pub put_meaning-requires : goal.put_meaning-requires
unfolding ascii
put_meaning-requires c =
    let rest = fits_next _ _ c.put_number-2.ensures (fits_next _ _ c.put_number.ensures c.requires) in
    search writes

pub put_byte-requires : goal.put_byte-requires
unfolding ascii
put_byte-requires c = search writes

pub returns : goal.returns
unfolding ascii
returns c = search writes
