use Rattle.rules.specs.Derived.{take}
use Rattle.parser.proofs.Laws.{readings}
use Rattle.parser.proofs.Forward.{met_forward}
use Rattle.parser.proofs.Parser.take.Goals as goal

pub returns-in-Err-clause-met : goal.returns-in-Err-clause-met
unfolding take
returns-in-Err-clause-met c = search readings depth 14

pub record-requires : goal.record-requires
record-requires c = met_forward c.in-Ok.ensures.met

pub returns-in-Err-record-clause-met : goal.returns-in-Err-record-clause-met
unfolding take
returns-in-Err-record-clause-met c = search readings depth 14

pub returns-clause-met : goal.returns-clause-met
unfolding take
returns-clause-met c = search readings depth 14
