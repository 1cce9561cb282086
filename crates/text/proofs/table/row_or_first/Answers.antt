use Rattle.text.proofs.Slices.{text_at, text_past}
use Rattle.text.proofs.table.row_or_first.Goals as goal

pub returns-then-n-table : goal.returns-then-n-table
returns-then-n-table c = text_at c.args.table.now _ _ _ c.if-n-table.true

pub returns : goal.returns
returns c = text_past c.args.table.now _ _ _ c.requires c.if-n-table.false
