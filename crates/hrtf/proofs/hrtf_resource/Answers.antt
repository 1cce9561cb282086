use Rattle.parser.proofs.Laws.{readings, questions}
use Rattle.parser.proofs.Steps.{ends_now}
use Rattle.hrtf.specs.Hrtf.{hrtf_resource}
use Rattle.hrtf.proofs.hrtf_resource.Goals as goal

pub returns : goal.returns
unfolding hrtf_resource
returns c = search (readings, questions) depth 14

pub returns-2 : goal.returns-2
unfolding hrtf_resource
returns-2 c = search (readings, questions) depth 14

pub returns-3 : goal.returns-3
unfolding hrtf_resource
returns-3 c = search (readings, questions, ends_now) depth 14
