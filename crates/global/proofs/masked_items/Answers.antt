use Rattle.parser.proofs.Laws.{readings}
use Rattle.global.specs.Global.{masked_items}
use Rattle.global.proofs.masked_items.Goals as goal

pub returns : goal.returns
unfolding masked_items
returns c = search readings depth 14

pub returns-2 : goal.returns-2
unfolding masked_items
returns-2 c = search readings depth 14

pub returns-3 : goal.returns-3
unfolding masked_items
returns-3 c = search readings depth 14
