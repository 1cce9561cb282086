use Rattle.parser.proofs.Laws.{readings}
use Rattle.common_resources.specs.Common.{values}
use Rattle.common_resources.proofs.values.Goals as goal

pub returns : goal.returns
unfolding values
returns c = search readings depth 14
