use Rattle.parser.proofs.Laws.{readings}
use Rattle.renderer_kinds.specs.Kinds.{legacy_spread}
use Rattle.renderer_kinds.proofs.legacy_spread.Goals as goal

pub returns : goal.returns
unfolding legacy_spread
returns c = search readings depth 14

pub returns-2 : goal.returns-2
unfolding legacy_spread
returns-2 c = search readings depth 14

pub returns-then-height_present : goal.returns-then-height_present
unfolding legacy_spread
returns-then-height_present c = search readings depth 14

pub returns-3 : goal.returns-3
unfolding legacy_spread
returns-3 c = search readings depth 14
