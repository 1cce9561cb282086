use Rattle.parser.proofs.Laws.{readings}
use Rattle.renderer_kinds.specs.Kinds.{order_and_encoded}
use Rattle.renderer_kinds.proofs.order_and_encoded.Goals as goal

pub returns : goal.returns
unfolding order_and_encoded
returns c = search readings depth 14

pub returns-2 : goal.returns-2
unfolding order_and_encoded
returns-2 c = search readings depth 14
