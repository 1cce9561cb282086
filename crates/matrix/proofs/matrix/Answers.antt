use Rattle.parser.proofs.Laws.{readings}
use Rattle.parser.proofs.Choice.{choices}
use Rattle.parser.proofs.Steps.{ends_now}
use Rattle.matrix.specs.Matrix.{matrix}
use Rattle.matrix.proofs.matrix.Goals as goal

pub returns : goal.returns
unfolding matrix
returns c = search (readings, choices) depth 14

pub returns-in-0 : goal.returns-in-0
unfolding matrix
returns-in-0 c = search (readings, choices) depth 14

pub returns-in-1 : goal.returns-in-1
unfolding matrix
returns-in-1 c = search (readings, choices) depth 14

pub returns-in_default : goal.returns-in_default
unfolding matrix
returns-in_default c = search (readings, choices, ends_now) depth 14
