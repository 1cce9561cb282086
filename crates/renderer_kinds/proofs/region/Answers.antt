use Rattle.parser.proofs.Laws.{readings}
use Rattle.renderer_kinds.specs.Kinds.{region}
use Rattle.renderer_kinds.proofs.region.Goals as goal

pub returns : goal.returns
unfolding region
returns c = search readings depth 14

pub returns-then-predefined : goal.returns-then-predefined
unfolding region
returns-then-predefined c = search readings depth 14

pub returns-then-cartesian : goal.returns-then-cartesian
unfolding region
returns-then-cartesian c = search readings depth 14

pub returns-2 : goal.returns-2
unfolding region
returns-2 c = search readings depth 14
