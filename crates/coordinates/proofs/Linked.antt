-- A program that has this crate's table, and the code of what the crate calls, has the code of these functions: for the crate `linked`.
use Rattle.rules.proofs.Table.{HasAt}
use Rattle.coordinates.proofs.TheLink.{table, Below, linked-coordinates::coordinate_values, linked-coordinates::width}
use Rattle.coordinates.proofs.coordinate_values.Symbol.{code as coordinate_values_code}
use Rattle.coordinates.proofs.width.Symbol.{code as width_code}

pub coordinate_values : HasAt "coordinates" table Below coordinate_values_code
coordinate_values = linked-coordinates::coordinate_values

pub width : HasAt "coordinates" table Below width_code
width = linked-coordinates::width
