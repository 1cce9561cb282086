use Rattle.parser.proofs.Laws.{readings}
use Rattle.hrtf.specs.Hrtf.{hrtf}
use Rattle.hrtf.proofs.hrtf.Goals as goal

pub returns : goal.returns
unfolding hrtf
returns c = search readings depth 14

pub returns-2 : goal.returns-2
unfolding hrtf
returns-2 c = search readings depth 14

pub returns-3 : goal.returns-3
unfolding hrtf
returns-3 c = search readings depth 14
