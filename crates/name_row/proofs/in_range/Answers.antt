use Rattle.name_row.specs.Row.{in_range}
use Rattle.name_row.proofs.in_range.Goals as goal

pub returns : goal.returns
unfolding in_range
returns c = rw (c.number_at-first.ensures, c.number_at-second.ensures)
