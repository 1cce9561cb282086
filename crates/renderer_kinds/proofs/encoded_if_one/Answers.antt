use Rattle.parser.proofs.Laws.{readings}
use Rattle.renderer_kinds.specs.Kinds.{encoded_if_one}
use Rattle.renderer_kinds.proofs.encoded_if_one.Goals as goal

pub returns : goal.returns
unfolding encoded_if_one
returns c = search readings depth 14

pub returns-then-kind-eq1 : goal.returns-then-kind-eq1
unfolding encoded_if_one
returns-then-kind-eq1 c = search readings depth 14

pub returns-2 : goal.returns-2
unfolding encoded_if_one
returns-2 c = search readings depth 14
