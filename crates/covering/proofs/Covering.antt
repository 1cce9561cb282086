-- A position, a scene and an update tile, so that their fields cover the bits of the call.
use Prim.Native.Nat.{ℕ}
use mathlib.Core.List.{List}
use mathlib.Core.Bool.{Bool}
use Rattle.position.specs.declared.PositionSyntax.{PositionSyntax}
use Rattle.validation.specs.Validation.{validate_graph}
use Rattle.positions.specs.Positions.{updated_position, position_at, positions}
use Rattle.scene.specs.Scene.{scene_fields, scene_graph}
use Rattle.update.specs.Update.{update_fields, graph_update}
use Rattle.laws.specs.Tiles.{Tiling}
use Rattle.laws.proofs.Tiles.{tiling, tiling_each, call_covered}
use Rattle.covering.specs.Covering.{Covering}
use Rattle.covering.proofs.Position.{position_tiles}

updated_position_tiles : (p : ℕ) (sh : PositionSyntax) → Tiling (updated_position p sh)
unfolding updated_position
updated_position_tiles p sh = search (tiling, position_tiles)

position_at_tiles : (full : Bool) (i : ℕ) (sh : PositionSyntax) → Tiling (position_at full i sh)
unfolding position_at
position_at_tiles full i sh = search (tiling, position_tiles, updated_position_tiles)

positions_tile : (full : Bool) (shapes : List PositionSyntax) → Tiling (positions full shapes)
unfolding positions
positions_tile full shapes = tiling_each _ 0 shapes (position_at_tiles full)

-- validation reads no bits
validate_graph_tiles : (shapes : List PositionSyntax) → Tiling (validate_graph shapes)
unfolding validate_graph
validate_graph_tiles shapes = search tiling

scene_fields_tile : Tiling scene_fields
unfolding scene_fields
scene_fields_tile = search (tiling, positions_tile)

scene_graph_tiles : Tiling scene_graph
unfolding scene_graph
scene_graph_tiles = search (tiling, scene_fields_tile, validate_graph_tiles)

graph_update_tiles : (shapes : List PositionSyntax) → Tiling (graph_update shapes)
unfolding graph_update update_fields
graph_update_tiles shapes = search (tiling, positions_tile, validate_graph_tiles)

pub covering : Covering
covering =
    record {
      position = λ i offset shape full. call_covered i _ offset (position_tiles _ shape full);
      scene = λ i offset. call_covered i 0 offset scene_graph_tiles;
      update = λ i offset count shapes. call_covered i _ offset (graph_update_tiles shapes);
    }
