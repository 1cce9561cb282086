use Rattle.parser.proofs.Laws.{readings}
use Rattle.renderer_kinds.specs.Kinds.{spread_values}
use Rattle.renderer_kinds.proofs.spread_values.Goals as goal

pub returns : goal.returns
unfolding spread_values
returns c = search readings depth 14

pub returns-2 : goal.returns-2
unfolding spread_values
returns-2 c = search readings depth 14

pub returns-then-third_dimension : goal.returns-then-third_dimension
unfolding spread_values
returns-then-third_dimension c = search readings depth 14

pub returns-3 : goal.returns-3
unfolding spread_values
returns-3 c = search readings depth 14
