use Rattle.parser.proofs.Laws.{readings}
use Rattle.renderer_kinds.specs.Kinds.{spread}
use Rattle.renderer_kinds.proofs.spread.Goals as goal

pub returns : goal.returns
unfolding spread
returns c = search readings depth 14

pub returns-then-legacy : goal.returns-then-legacy
unfolding spread
returns-then-legacy c = search readings depth 14

pub returns-2 : goal.returns-2
unfolding spread
returns-2 c = search readings depth 14

pub returns-3 : goal.returns-3
unfolding spread
returns-3 c = search readings depth 14
