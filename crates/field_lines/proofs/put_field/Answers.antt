use Rattle.text.proofs.Writes.{fits_next, writes}
use Rattle.field_lines.specs.FieldLine.{field_line}
use Rattle.field_lines.proofs.put_field.Goals as goal

pub put_place-requires : goal.put_place-requires
unfolding field_line
put_place-requires c = search writes

pub put_value-requires : goal.put_value-requires
unfolding field_line
put_value-requires c = search writes

pub put_name-requires : goal.put_name-requires
unfolding field_line
put_name-requires c =
    let rest = fits_next _ _ c.put_place.ensures c.requires in
    search writes

pub put_byte-requires : goal.put_byte-requires
unfolding field_line
put_byte-requires c = search writes

pub returns : goal.returns
unfolding field_line
returns c = search writes
