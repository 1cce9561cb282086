-- A program that has this crate's table, and the code of what the crate calls, has the code of these functions: for the crate `linked`.
use Rattle.rules.proofs.Table.{HasAt}
use Rattle.show.proofs.TheLink.{table, Below, linked-show::show}
use Rattle.show.proofs.show.Symbol.{code as show_code}

pub show : HasAt "show" table Below show_code
show = linked-show::show
