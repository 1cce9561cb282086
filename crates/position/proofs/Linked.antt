-- A program that has this crate's table, and the code of what the crate calls, has the code of these functions: for the crate `linked`.
use Rattle.rules.proofs.Table.{HasAt}
use Rattle.position.proofs.TheLink.{table, Below, linked-position::PositionSyntax::default, linked-position::PositionSyntax::is_shaped, linked-position::position}
use Rattle.position.proofs.PositionSyntax.default.Symbol.{code as position_syntax_default_code}
use Rattle.position.proofs.PositionSyntax.is_shaped.Symbol.{code as position_syntax_is_shaped_code}
use Rattle.position.proofs.position.Symbol.{code as position_code}

pub position_syntax_default : HasAt "position" table Below position_syntax_default_code
position_syntax_default = linked-position::PositionSyntax::default

pub position_syntax_is_shaped : HasAt "position" table Below position_syntax_is_shaped_code
position_syntax_is_shaped = linked-position::PositionSyntax::is_shaped

pub position : HasAt "position" table Below position_code
position = linked-position::position
