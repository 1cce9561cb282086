use Rattle.rules.specs.Derived.{demand}
use Rattle.parser.proofs.Laws.{readings}
use Rattle.parser.proofs.Steps.{ends_now}
use Rattle.metadata.specs.Metadata.{configuration_present}
use Rattle.metadata.proofs.configuration_present.Goals as goal

pub returns : goal.returns
unfolding configuration_present
returns c = search readings depth 14

pub returns-then-present : goal.returns-then-present
unfolding configuration_present demand
returns-then-present c = search readings depth 14

pub returns-2 : goal.returns-2
unfolding configuration_present demand
returns-2 c = search (readings, ends_now) depth 14
