use Rattle.parser.proofs.Laws.{readings}
use Rattle.code_tables.specs.Tables.{table_count}
use Rattle.code_tables.proofs.table_count.Goals as goal

pub returns-clause-met : goal.returns-clause-met
unfolding table_count
returns-clause-met c = search readings depth 14

pub returns-2-clause-met : goal.returns-2-clause-met
unfolding table_count
returns-2-clause-met c = search readings depth 14
