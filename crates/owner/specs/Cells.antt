-- Elements side by side in memory: where they lie and what they are, and a slice of them as the machine has it.
use Rattle.std.specs.Prelude.{ℕ, ◌<◌, ◌*◌, ◌^◌, List, length}
use mir.Val.{Val, vptr}
use denote.Slice.{slice_val}

-- the block, the offset of the first, and the elements
pub record Cells (X : Type 0) : Type 0 where
  pub block : ℕ
  pub offset : ℕ
  pub held : List X

-- the same cells with other elements in them
abbrev pub refilled : {X : Type 0} → Cells X → List X → Cells X
refilled c xs = record { block = c.block; offset = c.offset; held = xs }

-- all of a block
abbrev pub at_block : {X : Type 0} → ℕ → List X → Cells X
at_block b xs = record { block = b; offset = 0; held = xs }

-- the count is a usize, and the size in bytes an isize
abbrev pub Slice : {X : Type 0} → ℕ → Cells X → Type 0
Slice size c = (length c.held < 2 ^ 64) × (length c.held * size < 2 ^ 63)

-- what is passed for a slice: its pointer and its count; and for a reference, its pointer
abbrev pub slice : {X : Type 0} → Cells X → Val
slice c = slice_val (c.block, c.offset) (length c.held)

abbrev pub pointer : {X : Type 0} → Cells X → Val
pointer c = vptr c.block c.offset
