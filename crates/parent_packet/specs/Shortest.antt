-- The packet of fewest bits that gives shapes new parents, in the terms of the update that reads it.
use Rattle.std.specs.Prelude.{ℕ, ◌+◌, ◌*◌, ◌≤◌, ◌≡◌, List, [], ◌∷◌, Bool, true, ◌||◌, ◌&&◌, eqb, length}
use Rattle.rules.specs.Reading.{Reading, read, Input}
use Rattle.position.specs.declared.PositionSyntax.{PositionSyntax}
use Rattle.position.specs.Shape.{with_parent}
use Rattle.update.specs.Update.{update_reading}
use Rattle.bit_writer.specs.Bits.{bits_from}

-- the shapes with those parents, each otherwise as it was
unfoldable pub with_parents : List PositionSyntax → List ℕ → List PositionSyntax
with_parents [] ps = []
with_parents (sh ∷ shapes) [] = []
with_parents (sh ∷ shapes) (p ∷ ps) = with_parent sh p ∷ with_parents shapes ps

-- question 37: no position changes its parent unless that is dynamic
unfoldable pub all_dynamic : List PositionSyntax → List ℕ → Bool
all_dynamic [] ps = true
all_dynamic (sh ∷ shapes) [] = true
all_dynamic (sh ∷ shapes) (p ∷ ps) = (eqb sh.parent p || sh.parent_dynamic) && all_dynamic shapes ps

-- bits stand in an input from `offset` on; what stands after them is anything
pub record Begins (bits : List ℕ) (i : Input) (offset : ℕ) : Type 0 where
  pub short : length i.bytes ≤ 8388608
  pub inside : offset + length bits ≤ 8 * length i.bytes
  pub begin : bits_from i.bytes offset (length bits) ≡ bits

-- With recording off, or in words for all fields that such an update has: at most eight of each position.
abbrev pub RoomForFields : List PositionSyntax → Input → Type 0
RoomForFields shapes i = i.recording ≡ true → 5 * (8 * length shapes) ≤ i.room

-- an update of all the shapes
abbrev pub update_of : List PositionSyntax → Input → ℕ → Reading (List PositionSyntax)
update_of shapes i offset = update_reading i offset (length shapes) shapes

-- an update is read, and gives the shapes those parents
abbrev pub GivesParents : List PositionSyntax → List ℕ → Reading (List PositionSyntax) → Type 0
GivesParents shapes parents x = x.result ≡ read (with_parents shapes parents)

-- The bits are such an update, to their last bit, wherever they stand and whatever follows them. No bits that do the same are fewer, and
-- of those that are as many they are the only ones.
pub record Shortest (shapes : List PositionSyntax) (parents bits : List ℕ) : Type 0 where
  pub gives : (i : Input) (offset : ℕ) → Begins bits i offset → RoomForFields shapes i → GivesParents shapes parents (update_of shapes i offset)
  pub ends : (i : Input) (offset : ℕ) → Begins bits i offset → RoomForFields shapes i → (update_of shapes i offset).position ≡ offset + length bits
  pub fewest : (i : Input) (offset : ℕ) → GivesParents shapes parents (update_of shapes i offset) → offset + length bits ≤ (update_of shapes i offset).position
  pub alone : (i : Input) (offset : ℕ) → GivesParents shapes parents (update_of shapes i offset) →
      (update_of shapes i offset).position ≡ offset + length bits → bits_from i.bytes offset (length bits) ≡ bits
