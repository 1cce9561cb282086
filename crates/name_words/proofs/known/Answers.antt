use Rattle.std.proofs.Common.{rules}
use Rattle.name_table.proofs.Wide.{leaf_long}
use Rattle.name_words.specs.NameText.{known}
use Rattle.name_words.proofs.known.Goals as goal

pub stands_in-stands-requires-clause-row_len : goal.stands_in-stands-requires-clause-row_len
stands_in-stands-requires-clause-row_len c = rw c.leaf_row.ensures (leaf_long _)

pub returns-then-stands : goal.returns-then-stands
unfolding known
returns-then-stands c = search rules

pub returns-else-stands : goal.returns-else-stands
unfolding known
returns-else-stands c = search rules
