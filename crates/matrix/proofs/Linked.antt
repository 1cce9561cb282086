-- A program that has this crate's table, and the code of what the crate calls, has the code of these functions: for the crate `linked`.
use Rattle.rules.proofs.Table.{HasAt}
use Rattle.matrix.proofs.TheLink.{table, Below, linked-matrix::matrix}
use Rattle.matrix.proofs.matrix.Symbol.{code as matrix_code}

pub matrix : HasAt "matrix" table Below matrix_code
matrix = linked-matrix::matrix
