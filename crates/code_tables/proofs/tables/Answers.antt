use borrow.Author.Rules.{rules}
use Rattle.parser.proofs.Laws.{readings, first}
use Rattle.code_tables.specs.Kind.{code_of}
use Rattle.code_tables.specs.Tables.{tables, table}
use Rattle.code_tables.proofs.tables.Goals as goal

pub returns : goal.returns
unfolding tables
returns c = search readings depth 14

pub returns-2 : goal.returns-2
unfolding tables
returns-2 c = first _ c.table_count.ensures.met (search rules) (c.each.ensures (table (code_of c.args.kind)) (λ i h p r q k. search rules))
