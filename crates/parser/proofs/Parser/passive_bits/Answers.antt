use Rattle.rules.specs.Derived.{passive_bits}
use Rattle.parser.proofs.Laws.{readings}
use Rattle.parser.proofs.Forward.{met_forward}
use Rattle.parser.proofs.Parser.passive_bits.Goals as goal

pub returns-then-width-eq0 : goal.returns-then-width-eq0
unfolding passive_bits
returns-then-width-eq0 c = search readings depth 14

pub returns-in-Err : goal.returns-in-Err
unfolding passive_bits
returns-in-Err c = search readings depth 14

pub record-requires : goal.record-requires
record-requires c = met_forward c.skip.ensures

pub returns : goal.returns
unfolding passive_bits
returns c = search readings depth 14
