use Rattle.parser.proofs.Laws.{readings}
use Rattle.parser.proofs.Choice.{choices}
use Rattle.renderer.specs.Renderer.{renderer_parameter}
use Rattle.renderer.proofs.renderer_parameter.Goals as goal

pub returns-in-0 : goal.returns-in-0
unfolding renderer_parameter
returns-in-0 c = search (readings, choices) depth 14

pub returns-in-1 : goal.returns-in-1
unfolding renderer_parameter
returns-in-1 c = search (readings, choices) depth 14

pub returns-in-2 : goal.returns-in-2
unfolding renderer_parameter
returns-in-2 c = search (readings, choices) depth 14

pub returns-in-3 : goal.returns-in-3
unfolding renderer_parameter
returns-in-3 c = search (readings, choices) depth 14

pub returns-in-4 : goal.returns-in-4
unfolding renderer_parameter
returns-in-4 c = search (readings, choices) depth 14

pub returns-in-5 : goal.returns-in-5
unfolding renderer_parameter
returns-in-5 c = search (readings, choices) depth 14

pub returns-in-6 : goal.returns-in-6
unfolding renderer_parameter
returns-in-6 c = search (readings, choices) depth 14

pub returns-in-7 : goal.returns-in-7
unfolding renderer_parameter
returns-in-7 c = search (readings, choices) depth 14

pub returns-in-8 : goal.returns-in-8
unfolding renderer_parameter
returns-in-8 c = search (readings, choices) depth 14

pub returns-in-9 : goal.returns-in-9
unfolding renderer_parameter
returns-in-9 c = search (readings, choices) depth 14

pub returns-in-10 : goal.returns-in-10
unfolding renderer_parameter
returns-in-10 c = search (readings, choices) depth 14

pub returns-in-11 : goal.returns-in-11
unfolding renderer_parameter
returns-in-11 c = search (readings, choices) depth 14

pub returns-in-12 : goal.returns-in-12
unfolding renderer_parameter
returns-in-12 c = search (readings, choices) depth 14

pub returns-in-13 : goal.returns-in-13
unfolding renderer_parameter
returns-in-13 c = search (readings, choices) depth 14

pub returns-in-16 : goal.returns-in-16
unfolding renderer_parameter
returns-in-16 c = search (readings, choices) depth 14

pub returns-in-17 : goal.returns-in-17
unfolding renderer_parameter
returns-in-17 c = search (readings, choices) depth 14

pub returns-in-19 : goal.returns-in-19
unfolding renderer_parameter
returns-in-19 c = search (readings, choices) depth 14

pub returns-in-22 : goal.returns-in-22
unfolding renderer_parameter
returns-in-22 c = search (readings, choices) depth 14

pub returns-in-23 : goal.returns-in-23
unfolding renderer_parameter
returns-in-23 c = search (readings, choices) depth 14

pub returns-in-24 : goal.returns-in-24
unfolding renderer_parameter
returns-in-24 c = search (readings, choices) depth 14

pub returns-in_default : goal.returns-in_default
unfolding renderer_parameter
returns-in_default c = search (readings, choices) depth 14
