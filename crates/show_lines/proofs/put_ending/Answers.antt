use Rattle.text.specs.Text.{ascii, line}
use Rattle.show_lines.proofs.put_ending.Goals as goal

pub put_two-requires : goal.put_two-requires
unfolding line ascii
put_two-requires c = rw c.in-Read.is at c.requires

pub put_two-requires-in-Refused : goal.put_two-requires-in-Refused
unfolding line ascii
put_two-requires-in-Refused c = rw c.in-Refused.is at c.requires

pub put_two-requires-in-Stopped : goal.put_two-requires-in-Stopped
unfolding line ascii
put_two-requires-in-Stopped c = rw c.in-Stopped.is at c.requires

pub returns-in-Read : goal.returns-in-Read
unfolding line ascii
returns-in-Read c = rw c.in-Read.is c.put_two.ensures

pub returns-in-Refused : goal.returns-in-Refused
unfolding line ascii
returns-in-Refused c = rw c.in-Refused.is c.put_two-in-Refused.ensures

pub returns-in-Stopped : goal.returns-in-Stopped
unfolding line ascii
returns-in-Stopped c = rw c.in-Stopped.is c.put_two-in-Stopped.ensures
