use native.Mathlib.Omega.{arith}
use Rattle.parser.proofs.Laws.{readings}
use Rattle.parser.proofs.Forward.{met_forward}
use Rattle.compression.specs.Compression.{padded_tables}
use Rattle.compression.proofs.padded_tables.Goals as goal

pub padding-requires : goal.padding-requires
padding-requires c = omega (arith, met_forward c.tables.ensures, met_forward c.parameter_if_present.ensures)

pub returns : goal.returns
unfolding padded_tables
returns c = search readings depth 14

pub returns-2 : goal.returns-2
unfolding padded_tables
returns-2 c = search readings depth 14

pub returns-3 : goal.returns-3
unfolding padded_tables
returns-3 c = search readings depth 14
