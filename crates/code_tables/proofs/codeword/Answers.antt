use Rattle.parser.proofs.Laws.{readings, questions}
use Rattle.parser.proofs.Steps.{ends_now}
use Rattle.code_tables.specs.Tables.{codeword}
use Rattle.code_tables.proofs.codeword.Goals as goal

pub returns : goal.returns
unfolding codeword
returns c = search (readings, questions) depth 14

pub returns-then-width-gt64 : goal.returns-then-width-gt64
unfolding codeword
returns-then-width-gt64 c = search (readings, questions, ends_now) depth 14

pub returns-2 : goal.returns-2
unfolding codeword
returns-2 c = search (readings, questions) depth 14

pub returns-3 : goal.returns-3
unfolding codeword
returns-3 c = search (readings, questions) depth 14
