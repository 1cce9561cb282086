-- A position reading called alone.
use Rattle.std.specs.Prelude.{ℕ, Bool}
use Rattle.rules.specs.Block.{positions}
use Rattle.rules.specs.Rule.{pick}
use Rattle.rules.specs.Reading.{Reading, Input}
use Rattle.rules.specs.Answer.{entry_reading}
use Rattle.position.specs.declared.PositionSyntax.{PositionSyntax}
use Rattle.position.specs.Formed.{is_shaped}
use Rattle.position.specs.Position.{position}

-- question 2 of an update, asked of one shape: 0 if it is met
abbrev pub shape_question : PositionSyntax → ℕ
shape_question sh = pick (is_shaped sh) 0 2

-- full or not, with the names of the first position of a scene
abbrev pub position_reading : Input → ℕ → PositionSyntax → Bool → Reading PositionSyntax
position_reading i offset sh full = entry_reading i (shape_question sh) offset (position (positions 0) sh full)
