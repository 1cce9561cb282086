use Rattle.text.proofs.Writes.{writes}
use Rattle.text.specs.Text.{ascii, line}
use Rattle.show_lines.specs.Lines.{position_line}
use Rattle.show_lines.proofs.put_position.Goals as goal

pub put_number-requires : goal.put_number-requires
unfolding line ascii position_line
put_number-requires c = search writes

pub put_two-requires : goal.put_two-requires
unfolding line ascii position_line
put_two-requires c = search writes

pub returns : goal.returns
unfolding line ascii position_line
returns c = search writes
