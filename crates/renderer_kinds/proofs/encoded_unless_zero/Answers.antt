use Rattle.parser.proofs.Laws.{readings}
use Rattle.renderer_kinds.specs.Kinds.{encoded_unless_zero}
use Rattle.renderer_kinds.proofs.encoded_unless_zero.Goals as goal

pub returns : goal.returns
unfolding encoded_unless_zero
returns c = search readings depth 14

pub returns-then-kind-eq0 : goal.returns-then-kind-eq0
unfolding encoded_unless_zero
returns-then-kind-eq0 c = search readings depth 14

pub returns-2 : goal.returns-2
unfolding encoded_unless_zero
returns-2 c = search readings depth 14
