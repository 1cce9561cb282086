use Rattle.parser.proofs.Laws.{readings, questions}
use Rattle.parser.proofs.Choice.{choices}
use Rattle.parser.proofs.Steps.{ends_now}
use Rattle.hrtf.specs.Hrtf.{hrtf_type}
use Rattle.hrtf.proofs.hrtf_type.Goals as goal

pub returns-in-0 : goal.returns-in-0
unfolding hrtf_type
returns-in-0 c = search (readings, choices, questions) depth 14

pub returns-in-1 : goal.returns-in-1
unfolding hrtf_type
returns-in-1 c = search (readings, choices, questions) depth 14

pub returns-in-2 : goal.returns-in-2
unfolding hrtf_type
returns-in-2 c = search (readings, choices, questions) depth 14

pub returns-in_default : goal.returns-in_default
unfolding hrtf_type
returns-in_default c = search (readings, choices, questions, ends_now) depth 14
