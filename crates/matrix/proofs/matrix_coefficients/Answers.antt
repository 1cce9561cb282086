use Rattle.parser.proofs.Laws.{readings}
use Rattle.matrix.specs.Matrix.{matrix_coefficients}
use Rattle.matrix.proofs.matrix_coefficients.Goals as goal

pub returns : goal.returns
unfolding matrix_coefficients
returns c = search readings depth 14

pub returns-2 : goal.returns-2
unfolding matrix_coefficients
returns-2 c = search readings depth 14

pub returns-3 : goal.returns-3
unfolding matrix_coefficients
returns-3 c = search readings depth 14
