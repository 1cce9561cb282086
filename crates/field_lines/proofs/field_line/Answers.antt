use Rattle.text.proofs.Lines.{no_line}
use Rattle.field_lines.proofs.Room.{line_of_found}
use Rattle.field_lines.proofs.field_line.Goals as goal

pub returns-in-Some : goal.returns-in-Some
returns-in-Some c =
    line_of_found _ _ c.at.ensures (rw c.in-Some.is c.known_line.ensures)

pub returns-in-None : goal.returns-in-None
returns-in-None c = line_of_found _ _ c.at.ensures (rw c.in-None.is no_line)
