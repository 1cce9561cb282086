use Rattle.parser.proofs.Laws.{readings}
use Rattle.common_resources.specs.Common.{reverb_parameter}
use Rattle.common_resources.proofs.reverb_parameter.Goals as goal

pub returns : goal.returns
unfolding reverb_parameter
returns c = search readings depth 14
