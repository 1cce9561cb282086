use mathlib.Core.Path.{◌∙◌}
use lib.ListN.{get_or}
use Rattle.text.specs.Table.{row}
use Rattle.text.specs.Text.{ascii}
use Rattle.text.proofs.Slices.{each_row_at}
use Rattle.name_table.specs.Table.{leaves, leaf_of}
use Rattle.name_table.proofs.leaf_row.Goals as goal

pub returns : goal.returns
unfolding leaves row ascii
returns c = c.row_or_first.ensures ∙ each_row_at ascii leaves (leaf_of c.args.word) (get_or leaves 0 "")
