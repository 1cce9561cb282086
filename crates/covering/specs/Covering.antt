-- The fields of a position, of a scene and of an update cover the bits from the offset on, in order, each bit once: up to the end
-- if all was read, and otherwise no further than where the reading ended.
use Rattle.std.specs.Prelude.{ℕ, List, Bool}
use Rattle.rules.specs.Reading.{Input}
use Rattle.position.specs.declared.PositionSyntax.{PositionSyntax}
use Rattle.position_alone.specs.Entry.{position_reading}
use Rattle.scene.specs.Scene.{scene_reading}
use Rattle.update.specs.Update.{update_reading}
use Rattle.laws.specs.Tiles.{CallCovered}

pub record Covering : Type 0 where
  pub position : (i : Input) (offset : ℕ) (shape : PositionSyntax) (full : Bool) → CallCovered offset (position_reading i offset shape full)
  pub scene : (i : Input) (offset : ℕ) → CallCovered offset (scene_reading i offset)
  pub update : (i : Input) (offset count : ℕ) (shapes : List PositionSyntax) → CallCovered offset (update_reading i offset count shapes)
