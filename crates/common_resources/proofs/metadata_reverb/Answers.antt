use Rattle.parser.proofs.Laws.{readings}
use Rattle.common_resources.specs.Common.{metadata_reverb}
use Rattle.common_resources.proofs.metadata_reverb.Goals as goal

pub returns : goal.returns
unfolding metadata_reverb
returns c = search readings depth 14

pub returns-2 : goal.returns-2
unfolding metadata_reverb
returns-2 c = search readings depth 14

pub returns-3 : goal.returns-3
unfolding metadata_reverb
returns-3 c = search readings depth 14
