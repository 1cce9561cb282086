use Rattle.parser.proofs.Laws.{readings}
use Rattle.common_resources.specs.Common.{payload}
use Rattle.common_resources.proofs.payload.Goals as goal

pub returns : goal.returns
unfolding payload
returns c = search readings depth 14

pub returns-2 : goal.returns-2
unfolding payload
returns-2 c = search readings depth 14
