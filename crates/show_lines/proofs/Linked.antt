-- A program that has this crate's table, and the code of what the crate calls, has the code of these functions: for the crate `linked`.
use Rattle.rules.proofs.Table.{HasAt}
use Rattle.show_lines.proofs.TheLink.{table, Below, linked-show_lines::put_part, linked-show_lines::put_refused, linked-show_lines::put_shapes}
use Rattle.show_lines.proofs.put_part.Symbol.{code as put_part_code}
use Rattle.show_lines.proofs.put_refused.Symbol.{code as put_refused_code}
use Rattle.show_lines.proofs.put_shapes.Symbol.{code as put_shapes_code}

pub put_part : HasAt "show_lines" table Below put_part_code
put_part = linked-show_lines::put_part

pub put_refused : HasAt "show_lines" table Below put_refused_code
put_refused = linked-show_lines::put_refused

pub put_shapes : HasAt "show_lines" table Below put_shapes_code
put_shapes = linked-show_lines::put_shapes
