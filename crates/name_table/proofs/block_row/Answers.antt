use mathlib.Core.Path.{◌∙◌}
use lib.ListN.{get_or}
use Rattle.text.specs.Table.{row}
use Rattle.text.specs.Text.{ascii}
use Rattle.text.proofs.Slices.{each_row_at}
use Rattle.name_table.specs.Table.{blocks, block_of}
use Rattle.name_table.proofs.block_row.Goals as goal

pub returns : goal.returns
unfolding blocks row ascii
returns c = c.row_or_first.ensures ∙ each_row_at ascii blocks (block_of c.args.word) (get_or blocks 0 "")
