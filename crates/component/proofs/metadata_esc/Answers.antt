use Rattle.parser.proofs.Laws.{readings}
use Rattle.component.specs.Component.{metadata_esc}
use Rattle.component.proofs.metadata_esc.Goals as goal

pub returns-clause-met : goal.returns-clause-met
unfolding metadata_esc
returns-clause-met c = search readings depth 14
