use Rattle.parser.proofs.Laws.{readings, questions}
use Rattle.parser.proofs.Steps.{ends_now}
use Rattle.code_tables.specs.Tables.{table}
use Rattle.code_tables.proofs.table.Goals as goal

pub returns : goal.returns
unfolding table
returns c = search (readings, questions) depth 14

pub returns-then-width-gt12 : goal.returns-then-width-gt12
unfolding table
returns-then-width-gt12 c = search (readings, questions, ends_now) depth 14

pub returns-2 : goal.returns-2
unfolding table
returns-2 c = search (readings, questions) depth 14
