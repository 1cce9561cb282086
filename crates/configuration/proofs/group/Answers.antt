use Rattle.parser.proofs.Laws.{readings}
use Rattle.configuration.specs.Configuration.{group}
use Rattle.configuration.proofs.group.Goals as goal

pub returns : goal.returns
unfolding group
returns c = search readings depth 14

pub returns-2 : goal.returns-2
unfolding group
returns-2 c = search readings depth 14

pub returns-3 : goal.returns-3
unfolding group
returns-3 c = search readings depth 14
