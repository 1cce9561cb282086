use Rattle.text.proofs.Writes.{writes}
use Rattle.text.specs.Text.{ascii, line}
use Rattle.show_lines.specs.Lines.{part_line}
use Rattle.show_lines.proofs.put_part.Goals as goal

pub put_number-requires : goal.put_number-requires
unfolding line ascii part_line
put_number-requires c = search writes

pub put_ending-requires : goal.put_ending-requires
unfolding line ascii part_line
put_ending-requires c = search writes

pub returns : goal.returns
unfolding line ascii part_line
returns c = search writes
