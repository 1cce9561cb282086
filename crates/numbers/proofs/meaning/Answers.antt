use mathlib.Core.Path.{◌∙◌}
use Rattle.text.specs.Table.{row}
use Rattle.text.specs.Text.{ascii}
use Rattle.text.proofs.Slices.{each_row_at}
use Rattle.numbers.specs.Meaning.{meanings, up_to_bar, meaning}
use Rattle.numbers.proofs.meaning.Goals as goal

pub returns : goal.returns
unfolding meanings up_to_bar ascii meaning row
returns c = c.row_or_first.ensures ∙ each_row_at (λ s. up_to_bar (ascii s)) meanings c.args.number _
