use Rattle.rules.specs.Derived.{label}
use Rattle.parser.proofs.Laws.{readings}
use Rattle.parser.proofs.Forward.{met_forward}
use Rattle.parser.proofs.Parser.label.Goals as goal

pub returns-in-Err : goal.returns-in-Err
unfolding label
returns-in-Err c = search readings depth 14

pub record-requires : goal.record-requires
record-requires c = met_forward c.label_bytes.ensures

pub returns : goal.returns
unfolding label
returns c = search readings depth 14
