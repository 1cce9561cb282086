-- A position of default shape, read in full.
use Rattle.std.specs.Prelude.{ℕ, true}
use Rattle.rules.specs.Rule.{Rule, done, ◌>>◌}
use Rattle.position.specs.Shape.{default}
use Rattle.position.specs.Position.{position}

-- `self.position(p, &mut PositionSyntax::default(), true)?`
unfoldable pub default_position : ℕ → Rule (Unit {0})
default_position p = do
  position p default true
  done tt
