-- A program that has this crate's table, and the code of what the crate calls, has the code of these functions: for the crate `linked`.
use Rattle.rules.proofs.Table.{HasAt}
use Rattle.lent.proofs.TheLink.{table, Below, linked-lent::graph_update}
use Rattle.lent.proofs.graph_update.Symbol.{code as graph_update_code}

pub graph_update : HasAt "lent" table Below graph_update_code
graph_update = linked-lent::graph_update
