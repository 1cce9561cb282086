use Rattle.parser.proofs.Laws.{readings}
use Rattle.matrix.specs.Matrix.{coefficient_bits}
use Rattle.matrix.proofs.coefficient_bits.Goals as goal

pub returns : goal.returns
unfolding coefficient_bits
returns c = search readings depth 14

pub returns-then-float : goal.returns-then-float
unfolding coefficient_bits
returns-then-float c = search readings depth 14

pub returns-2 : goal.returns-2
unfolding coefficient_bits
returns-2 c = search readings depth 14

pub returns-3 : goal.returns-3
unfolding coefficient_bits
returns-3 c = search readings depth 14
