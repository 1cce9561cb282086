-- `position`: the field rules of one position, full or of an update, whose names begin with the word `p`.
use Rattle.std.specs.Prelude.{ℕ, ◌+◌, ◌*◌, min, [], ◌∷◌, Bool, true, false}
use Rattle.rules.specs.Name.{third}
use Rattle.rules.specs.Leaf as leaf
use Rattle.rules.specs.Rule.{Rule, done, ◌>>=◌, ◌>>◌, pick}
use Rattle.rules.specs.Derived.{take, flag, passive_values}
use Rattle.position.specs.declared.PositionSyntax.{PositionSyntax}
use Rattle.position.specs.Shape.{with_dynamics, with_precisions, with_parent, with_polar}
use Rattle.extensions.specs.Extensions.{extensions_if_present}
use Rattle.coordinates.specs.Coordinates.{widths_of, coordinate_values}

-- a precision: twice its field, at most 24
abbrev pub precision_of : ℕ → ℕ
precision_of v = min (v * 2) 24

-- `if full { .. }`: the two flags, the two precisions
unfoldable pub dynamics : ℕ → PositionSyntax → Rule PositionSyntax
dynamics p sh = do
  parent ← flag (p + leaf.parent_dynamic)
  range ← flag (p + leaf.range_dynamic)
  done (with_dynamics sh parent range)

unfoldable pub precisions : ℕ → PositionSyntax → Rule PositionSyntax
precisions p sh = do
  position ← take (p + leaf.position_precision_encoded) 4
  rotation ← take (p + leaf.rotation_precision_encoded) 4
  done (with_precisions sh (precision_of position) (precision_of rotation))

unfoldable pub header : ℕ → PositionSyntax → Bool → Rule PositionSyntax
header p sh full =
    pick full
    (do
      a ← dynamics p sh
      precisions p a)
    (done sh)

-- `full || (dynamic && self.flag(name)?)`
unfoldable pub changed : ℕ → Bool → Bool → Rule Bool
changed name dynamic full = pick full (done true) (pick dynamic (flag name) (done false))

-- the parent: none if it is absolute, or an index, of which 0 is none too
unfoldable pub new_parent : ℕ → PositionSyntax → Rule PositionSyntax
new_parent p sh = do
  absolute ← flag (p + leaf.absolute_parent)
  pick absolute
      (done (with_parent sh 0))
      (do
        index ← take (p + leaf.parent_index) 6
        done (with_parent sh index))

unfoldable pub parent : ℕ → PositionSyntax → Bool → Rule PositionSyntax
parent p sh full = do
  there ← changed (p + leaf.parent_update) sh.parent_dynamic full
  pick there (new_parent p sh) (done sh)

unfoldable pub range : ℕ → Bool → Bool → Rule (Unit {0})
range p dynamic full = do
  there ← changed (p + leaf.range_update) dynamic full
  pick there
      (do
        take (p + leaf.range_encoded) 4
        done tt)
      (done tt)

-- a flag that is read unless `known`, when it is `value`: `!full && self.flag(name)?`, and `if !delta { .. }`
unfoldable pub flag_unless : ℕ → Bool → Bool → Rule Bool
flag_unless name known value = pick known (done value) (flag name)

-- `if self.flag(position_present)? { .. }`
unfoldable pub coordinates : ℕ → PositionSyntax → Bool → Rule PositionSyntax
coordinates p sh full = do
  delta ← flag_unless (p + leaf.position_delta) full false
  polar ← flag_unless (p + leaf.polar) delta sh.polar
  coordinate_values p polar sh.position_precision delta
  done (with_polar sh polar)

unfoldable pub coordinates_if_present : ℕ → PositionSyntax → Bool → Rule PositionSyntax
coordinates_if_present p sh full = do
  there ← flag (p + leaf.position_present)
  pick there (coordinates p sh full) (done sh)

-- `if self.flag(rotation_present)? { .. }`
unfoldable pub rotation_values : ℕ → ℕ → Bool → Rule (Unit {0})
rotation_values p precision delta = passive_values (p + leaf.rotation_encoded) third (widths_of (8 ∷ 8 ∷ 8 ∷ 8 ∷ []) precision delta)

unfoldable pub rotation : ℕ → ℕ → Bool → Rule (Unit {0})
rotation p precision full = do
  there ← flag (p + leaf.rotation_present)
  pick there
      (do
        delta ← flag_unless (p + leaf.rotation_delta) full false
        rotation_values p precision delta)
      (done tt)

-- the shape as far as the range, and what follows it
unfoldable pub before_range : ℕ → PositionSyntax → Bool → Rule PositionSyntax
before_range p sh full = do
  a ← header p sh full
  parent p a full

unfoldable pub after_range : ℕ → PositionSyntax → Bool → Rule PositionSyntax
after_range p sh full = do
  a ← coordinates_if_present p sh full
  rotation p a.rotation_precision full
  extensions_if_present p
  done a

unfoldable pub position : ℕ → PositionSyntax → Bool → Rule PositionSyntax
position p sh full = do
  a ← before_range p sh full
  range p a.range_dynamic full
  after_range p a full
