-- The shape of one position, and how the rules make it: they build none in any other way.
use Rattle.std.specs.Prelude.{ℕ, Bool, false}
use Rattle.position.specs.declared.PositionSyntax.{PositionSyntax}

-- `PositionSyntax::default()`
abbrev pub default : PositionSyntax
default =
    record {
      parent_dynamic = false;
      range_dynamic = false;
      position_precision = 0;
      rotation_precision = 0;
      parent = 0;
      polar = false;
    }

abbrev pub with_dynamics : PositionSyntax → Bool → Bool → PositionSyntax
with_dynamics sh parent range =
    record {
      parent_dynamic = parent;
      range_dynamic = range;
      position_precision = sh.position_precision;
      rotation_precision = sh.rotation_precision;
      parent = sh.parent;
      polar = sh.polar;
    }

abbrev pub with_precisions : PositionSyntax → ℕ → ℕ → PositionSyntax
with_precisions sh position rotation =
    record {
      parent_dynamic = sh.parent_dynamic;
      range_dynamic = sh.range_dynamic;
      position_precision = position;
      rotation_precision = rotation;
      parent = sh.parent;
      polar = sh.polar;
    }

abbrev pub with_parent : PositionSyntax → ℕ → PositionSyntax
with_parent sh parent =
    record {
      parent_dynamic = sh.parent_dynamic;
      range_dynamic = sh.range_dynamic;
      position_precision = sh.position_precision;
      rotation_precision = sh.rotation_precision;
      parent = parent;
      polar = sh.polar;
    }

abbrev pub with_polar : PositionSyntax → Bool → PositionSyntax
with_polar sh polar =
    record {
      parent_dynamic = sh.parent_dynamic;
      range_dynamic = sh.range_dynamic;
      position_precision = sh.position_precision;
      rotation_precision = sh.rotation_precision;
      parent = sh.parent;
      polar = polar;
    }
