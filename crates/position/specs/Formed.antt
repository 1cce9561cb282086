-- What the functions that read a shape promise beside their rule: its precisions are small.
use Rattle.std.specs.Prelude.{◌≤◌, ◌≡◌, Bool, ◌&&◌, leb}
use Rattle.position.specs.declared.PositionSyntax.{PositionSyntax}

-- no precision above 24
pub record Shaped (sh : PositionSyntax) : Type 0 where
  pub position : sh.position_precision ≤ 24
  pub rotation : sh.rotation_precision ≤ 24

-- the same, computed
abbrev pub is_shaped : PositionSyntax → Bool
is_shaped sh = leb sh.position_precision 24 && leb sh.rotation_precision 24

-- a shape made of another
pub record Remade (a b : PositionSyntax) : Type 0 where
  pub same : a ≡ b
  pub shaped : Shaped a
