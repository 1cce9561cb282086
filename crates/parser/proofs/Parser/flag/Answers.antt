use Rattle.rules.specs.Derived.{flag}
use Rattle.parser.proofs.Laws.{readings}
use Rattle.parser.proofs.Forward.{met_forward}
use Rattle.parser.proofs.Parser.flag.Goals as goal

pub returns-in-Err : goal.returns-in-Err
unfolding flag
returns-in-Err c = search readings depth 14

pub record-requires : goal.record-requires
record-requires c = met_forward c.read.ensures.met

pub returns-in-Err-record : goal.returns-in-Err-record
unfolding flag
returns-in-Err-record c = search readings depth 14

pub returns : goal.returns
unfolding flag
returns c = search readings depth 14
