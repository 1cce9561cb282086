-- A program that has this crate's table, and the code of what the crate calls, has the code of these functions: for the crate `linked`.
use Rattle.rules.proofs.Table.{HasAt}
use Rattle.bands.proofs.TheLink.{table, Below, linked-bands::bands, linked-bands::count_plus_one, linked-bands::renderer_precision}
use Rattle.bands.proofs.bands.Symbol.{code as bands_code}
use Rattle.bands.proofs.count_plus_one.Symbol.{code as count_plus_one_code}
use Rattle.bands.proofs.renderer_precision.Symbol.{code as renderer_precision_code}

pub bands : HasAt "bands" table Below bands_code
bands = linked-bands::bands

pub count_plus_one : HasAt "bands" table Below count_plus_one_code
count_plus_one = linked-bands::count_plus_one

pub renderer_precision : HasAt "bands" table Below renderer_precision_code
renderer_precision = linked-bands::renderer_precision
