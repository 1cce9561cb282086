use Rattle.parser.proofs.Laws.{readings}
use Rattle.parser.proofs.Choice.{choices}
use Rattle.parser.proofs.Steps.{ends_now}
use Rattle.radiation.specs.Radiation.{renderer_radiation}
use Rattle.radiation.proofs.renderer_radiation.Goals as goal

pub returns : goal.returns
unfolding renderer_radiation
returns c = search (readings, choices) depth 14

pub returns-in-0 : goal.returns-in-0
unfolding renderer_radiation
returns-in-0 c = search (readings, choices) depth 14

pub returns-in-1 : goal.returns-in-1
unfolding renderer_radiation
returns-in-1 c = search (readings, choices) depth 14

pub returns-in-2 : goal.returns-in-2
unfolding renderer_radiation
returns-in-2 c = search (readings, choices) depth 14

pub returns-in-3 : goal.returns-in-3
unfolding renderer_radiation
returns-in-3 c = search (readings, choices) depth 14

pub returns-in-4 : goal.returns-in-4
unfolding renderer_radiation
returns-in-4 c = search (readings, choices) depth 14

pub returns-in_default : goal.returns-in_default
unfolding renderer_radiation
returns-in_default c = search (readings, choices, ends_now) depth 14
