use Rattle.parser.proofs.Laws.{readings}
use Rattle.renderer_kinds.specs.Kinds.{spread_width}
use Rattle.renderer_kinds.proofs.spread_width.Goals as goal

pub returns-clause-met : goal.returns-clause-met
unfolding spread_width
returns-clause-met c = search readings depth 14

pub returns-2-clause-met : goal.returns-2-clause-met
unfolding spread_width
returns-2-clause-met c = search readings depth 14

pub returns-3-clause-met : goal.returns-3-clause-met
unfolding spread_width
returns-3-clause-met c = search readings depth 14
