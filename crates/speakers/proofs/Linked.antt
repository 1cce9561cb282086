-- A program that has this crate's table, and the code of what the crate calls, has the code of these functions: for the crate `linked`.
use Rattle.rules.proofs.Table.{HasAt}
use Rattle.speakers.proofs.TheLink.{table, Below, linked-speakers::labelled_layout}
use Rattle.speakers.proofs.labelled_layout.Symbol.{code as labelled_layout_code}

pub labelled_layout : HasAt "speakers" table Below labelled_layout_code
labelled_layout = linked-speakers::labelled_layout
