-- A program that has this crate's table, and the code of what the crate calls, has the code of these functions: for the crate `linked`.
use Rattle.rules.proofs.Table.{HasAt}
use Rattle.radiation.proofs.TheLink.{table, Below, linked-radiation::renderer_radiation}
use Rattle.radiation.proofs.renderer_radiation.Symbol.{code as renderer_radiation_code}

pub renderer_radiation : HasAt "radiation" table Below renderer_radiation_code
renderer_radiation = linked-radiation::renderer_radiation
