-- The rules of one position tile.
use Prim.Native.Nat.{ℕ, zero, suc, ◌+◌}
use mathlib.Core.Bool.{Bool}
use Rattle.rules.specs.Name.{third}
use Rattle.position.specs.declared.PositionSyntax.{PositionSyntax}
use Rattle.extensions.specs.Extensions.{extension_body, extension, extensions, extensions_if_present}
use Rattle.coordinates.specs.Coordinates.{coordinate_values}
use Rattle.position.specs.Position.{dynamics, precisions, header, changed, new_parent, parent, range, flag_unless, coordinates, coordinates_if_present, rotation_values, rotation, before_range, after_range, position}
use Rattle.laws.specs.Tiles.{Tiling}
use Rattle.laws.proofs.Tiles.{tiling, tiling_passive_values, tiling_ends}

-- an extension, whose names begin with `q`
extension_body_tiles : (q : ℕ) → Tiling (extension_body q)
unfolding extension_body
extension_body_tiles q = search tiling

extension_tiles : (q : ℕ) → Tiling (extension q)
unfolding extension
extension_tiles q = search (tiling, extension_body_tiles)

extensions_tile : (k q : ℕ) → Tiling (extensions k q)
unfolding extensions
extensions_tile zero q = tiling_ends
extensions_tile (suc k) q = let rest = extensions_tile k (q + third) in search (tiling, extension_tiles)

extensions_if_present_tile : (p : ℕ) → Tiling (extensions_if_present p)
unfolding extensions_if_present
extensions_if_present_tile p = search (tiling, extensions_tile)

-- the parts of a position, whose names begin with `p`
dynamics_tile : (p : ℕ) (sh : PositionSyntax) → Tiling (dynamics p sh)
unfolding dynamics
dynamics_tile p sh = search tiling

precisions_tile : (p : ℕ) (sh : PositionSyntax) → Tiling (precisions p sh)
unfolding precisions
precisions_tile p sh = search tiling

header_tiles : (p : ℕ) (sh : PositionSyntax) (full : Bool) → Tiling (header p sh full)
unfolding header
header_tiles p sh full = search (tiling, dynamics_tile, precisions_tile)

changed_tiles : (name : ℕ) (dynamic full : Bool) → Tiling (changed name dynamic full)
unfolding changed
changed_tiles name dynamic full = search tiling

flag_unless_tiles : (name : ℕ) (known value : Bool) → Tiling (flag_unless name known value)
unfolding flag_unless
flag_unless_tiles name known value = search tiling

new_parent_tiles : (p : ℕ) (sh : PositionSyntax) → Tiling (new_parent p sh)
unfolding new_parent
new_parent_tiles p sh = search tiling

parent_tiles : (p : ℕ) (sh : PositionSyntax) (full : Bool) → Tiling (parent p sh full)
unfolding parent
parent_tiles p sh full = search (tiling, changed_tiles, new_parent_tiles)

range_tiles : (p : ℕ) (dynamic full : Bool) → Tiling (range p dynamic full)
unfolding range
range_tiles p dynamic full = search (tiling, changed_tiles)

coordinate_values_tile : (p : ℕ) (polar : Bool) (precision : ℕ) (delta : Bool) → Tiling (coordinate_values p polar precision delta)
unfolding coordinate_values
coordinate_values_tile p polar precision delta = tiling_passive_values _ _ _

coordinates_tile : (p : ℕ) (sh : PositionSyntax) (full : Bool) → Tiling (coordinates p sh full)
unfolding coordinates
coordinates_tile p sh full = search (tiling, flag_unless_tiles, coordinate_values_tile)

coordinates_if_present_tile : (p : ℕ) (sh : PositionSyntax) (full : Bool) → Tiling (coordinates_if_present p sh full)
unfolding coordinates_if_present
coordinates_if_present_tile p sh full = search (tiling, coordinates_tile)

rotation_values_tile : (p precision : ℕ) (delta : Bool) → Tiling (rotation_values p precision delta)
unfolding rotation_values
rotation_values_tile p precision delta = tiling_passive_values _ _ _

rotation_tiles : (p precision : ℕ) (full : Bool) → Tiling (rotation p precision full)
unfolding rotation
rotation_tiles p precision full = search (tiling, flag_unless_tiles, rotation_values_tile)

before_range_tiles : (p : ℕ) (sh : PositionSyntax) (full : Bool) → Tiling (before_range p sh full)
unfolding before_range
before_range_tiles p sh full = search (tiling, header_tiles, parent_tiles)

after_range_tiles : (p : ℕ) (sh : PositionSyntax) (full : Bool) → Tiling (after_range p sh full)
unfolding after_range
after_range_tiles p sh full = search (tiling, coordinates_if_present_tile, rotation_tiles, extensions_if_present_tile)

pub position_tiles : (p : ℕ) (sh : PositionSyntax) (full : Bool) → Tiling (position p sh full)
unfolding position
position_tiles p sh full = search (tiling, before_range_tiles, range_tiles, after_range_tiles)
