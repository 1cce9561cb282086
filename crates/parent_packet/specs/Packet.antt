-- The bits of the packet that an update reads to give shapes new parents.
use Rattle.std.specs.Prelude.{ℕ, List, [], ◌∷◌, ◌++◌, Bool, eqb}
use Rattle.rules.specs.Rule.{pick}
use Rattle.position.specs.declared.PositionSyntax.{PositionSyntax}
use Rattle.bit_writer.specs.Bits.{bits_of}

-- `absolute_parent`, and `parent_index` unless it is set
abbrev pub parent_bits : ℕ → List ℕ
parent_bits parent = pick (eqb parent 0) (1 ∷ []) (0 ∷ bits_of 6 parent)

-- `range_update`, where the range is dynamic
abbrev pub range_bits : Bool → List ℕ
range_bits dynamic = pick dynamic (0 ∷ []) []

-- a position whose parent changes: `updated` and `parent_update` are set, and `position_present`, `rotation_present` and
-- `extensions_present` are not
abbrev pub changed_bits : PositionSyntax → ℕ → List ℕ
changed_bits sh parent = 1 ∷ 1 ∷ parent_bits parent ++ (range_bits sh.range_dynamic ++ 0 ∷ 0 ∷ 0 ∷ [])

-- a position: one whose parent does not change is not updated
unfoldable pub position_bits : PositionSyntax → ℕ → List ℕ
position_bits sh parent = pick (eqb sh.parent parent) (0 ∷ []) (changed_bits sh parent)

-- a parent for each shape
unfoldable pub packet : List PositionSyntax → List ℕ → List ℕ
packet [] ps = []
packet (sh ∷ shapes) [] = []
packet (sh ∷ shapes) (p ∷ ps) = position_bits sh p ++ packet shapes ps
