use Rattle.parser.proofs.Laws.{readings}
use Rattle.parser.proofs.Parser.unless_flag.Goals as goal

pub returns-in-Err : goal.returns-in-Err
returns-in-Err g c = λ rule h. search readings depth 14

pub returns-then-absent : goal.returns-then-absent
returns-then-absent g c = λ rule h. search readings depth 14

pub returns : goal.returns
returns g c = λ rule h. search (readings, h, c.f.ensures) depth 14
