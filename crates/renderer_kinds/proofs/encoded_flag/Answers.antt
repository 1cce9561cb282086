use Rattle.parser.proofs.Laws.{readings}
use Rattle.renderer_kinds.specs.Kinds.{encoded_flag}
use Rattle.renderer_kinds.proofs.encoded_flag.Goals as goal

pub returns : goal.returns
unfolding encoded_flag
returns c = search readings depth 14

pub returns-2 : goal.returns-2
unfolding encoded_flag
returns-2 c = search readings depth 14
