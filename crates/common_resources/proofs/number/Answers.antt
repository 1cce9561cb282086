use Rattle.parser.proofs.Laws.{readings}
use Rattle.common_resources.specs.Common.{number}
use Rattle.common_resources.proofs.number.Goals as goal

pub returns : goal.returns
unfolding number
returns c = search readings depth 14

pub returns-2 : goal.returns-2
unfolding number
returns-2 c = search readings depth 14
