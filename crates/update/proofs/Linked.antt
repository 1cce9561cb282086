-- A program that has this crate's table, and the code of what the crate calls, has the code of these functions: for the crate `linked`.
use Rattle.rules.proofs.Table.{HasAt}
use Rattle.update.proofs.TheLink.{table, Below, linked-update::graph_update, linked-update::undecided::read_update}
use Rattle.update.proofs.graph_update.Symbol.{code as graph_update_code}
use Rattle.update.proofs.undecided.read_update.Symbol.{code as undecided_read_update_code}

pub graph_update : HasAt "update" table Below graph_update_code
graph_update = linked-update::graph_update

pub undecided_read_update : HasAt "update" table Below undecided_read_update_code
undecided_read_update = linked-update::undecided::read_update
