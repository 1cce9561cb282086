use Rattle.rules.specs.Derived.{escaped}
use Rattle.parser.proofs.Laws.{readings}
use Rattle.parser.proofs.Forward.{met_forward}
use Rattle.parser.proofs.Parser.escaped.Goals as goal

pub returns-in-Err-clause-met : goal.returns-in-Err-clause-met
unfolding escaped
returns-in-Err-clause-met c = search readings depth 14

pub record-requires : goal.record-requires
record-requires c = met_forward c.parts.ensures.met

pub returns-in-Err-record-clause-met : goal.returns-in-Err-record-clause-met
unfolding escaped
returns-in-Err-record-clause-met c = search readings depth 14

pub returns-clause-met : goal.returns-clause-met
unfolding escaped
returns-clause-met c = search readings depth 14
