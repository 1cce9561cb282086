use borrow.Author.Rules.{rules}
use Rattle.parser.proofs.Entered.{as_entry}
use Rattle.parser.proofs.Laws.{first_unit, ended_first}
use Rattle.metadata.proofs.entered.Goals as goal

pub returns : goal.returns
returns c = ended_first _ (as_entry _ _ _ tt c.entry.ensures) (search rules)

pub returns-2 : goal.returns-2
returns-2 c = first_unit _ (as_entry _ _ _ tt c.entry.ensures) (search rules) c.metadata_configuration.ensures
