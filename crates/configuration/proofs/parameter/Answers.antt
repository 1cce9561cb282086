use Rattle.parser.proofs.Laws.{readings}
use Rattle.configuration.specs.Configuration.{parameter}
use Rattle.configuration.proofs.parameter.Goals as goal

pub returns : goal.returns
unfolding parameter
returns c = search readings depth 14

pub returns-2 : goal.returns-2
unfolding parameter
returns-2 c = search readings depth 14
