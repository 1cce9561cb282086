-- A program that has this crate's table, and the code of what the crate calls, has the code of these functions: for the crate `linked`.
use Rattle.rules.proofs.Table.{HasAt}
use Rattle.outcome_lines.proofs.TheLink.{table, Below, linked-outcome_lines::outcome_line}
use Rattle.outcome_lines.proofs.outcome_line.Symbol.{code as outcome_line_code}

pub outcome_line : HasAt "outcome_lines" table Below outcome_line_code
outcome_line = linked-outcome_lines::outcome_line
