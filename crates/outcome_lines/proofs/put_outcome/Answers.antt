use Rattle.text.specs.Text.{ascii, line}
use Rattle.outcome_lines.specs.OutcomeLine.{end_line, outcome_text}
use Rattle.outcome_lines.proofs.put_outcome.Goals as goal

pub put_two-requires : goal.put_two-requires
unfolding ascii line end_line outcome_text
put_two-requires c =
    rw c.in-Read.is at c.requires

pub put_ended-requires : goal.put_ended-requires
unfolding ascii line end_line outcome_text
put_ended-requires c =
    rw c.in-Refused.is at c.requires

pub put_ended-requires-in-Stopped : goal.put_ended-requires-in-Stopped
unfolding ascii line end_line outcome_text
put_ended-requires-in-Stopped c =
    rw c.in-Stopped.is at c.requires

pub returns-in-Read : goal.returns-in-Read
unfolding ascii line end_line outcome_text
returns-in-Read c =
    rw c.in-Read.is c.put_two.ensures

pub returns-in-Refused : goal.returns-in-Refused
unfolding ascii line end_line outcome_text
returns-in-Refused c =
    rw c.in-Refused.is c.put_ended.ensures

pub returns-in-Stopped : goal.returns-in-Stopped
unfolding ascii line end_line outcome_text
returns-in-Stopped c =
    rw c.in-Stopped.is c.put_ended-in-Stopped.ensures
