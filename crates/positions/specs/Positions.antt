-- The positions of a scene or of an update, one after another, and what their loop promises.
use Rattle.std.specs.Prelude.{ℕ, ◌+◌, List, Bool, true, false}
use Rattle.rules.specs.Block as block
use Rattle.rules.specs.Leaf as leaf
use Rattle.rules.specs.Rule.{Rule, done, ◌>>=◌, pick}
use Rattle.rules.specs.Derived.{flag, each}
use Rattle.position.specs.declared.PositionSyntax.{PositionSyntax}
use Rattle.position.specs.Position.{position}

-- `if parser.flag(updated)? { parser.position(..)?; }`
unfoldable pub updated_position : ℕ → PositionSyntax → Rule PositionSyntax
updated_position p sh = do
  there ← flag (p + leaf.updated)
  pick there (position p sh false) (done sh)

-- position `i`, counted from 0: in a scene all of them are there and full, in an update each has a flag first
unfoldable pub position_at : Bool → ℕ → PositionSyntax → Rule PositionSyntax
position_at full i sh = pick full (position (block.positions i) sh true) (updated_position (block.positions i) sh)

-- `for (i, shape) in shapes.iter_mut().enumerate()`, in `scene_graph` and in `graph_update`
unfoldable pub positions : Bool → List PositionSyntax → Rule (List PositionSyntax)
positions full shapes = each (position_at full) 0 shapes
