-- A program that has this crate's table, and the code of what the crate calls, has the code of these functions: for the crate `linked`.
use Rattle.rules.proofs.Table.{HasAt}
use Rattle.exported.proofs.TheLink.{table, Below, linked-exported::exported_graph}
use Rattle.exported.proofs.exported_graph.Symbol.{code as exported_graph_code}

pub exported_graph : HasAt "exported" table Below exported_graph_code
exported_graph = linked-exported::exported_graph
