-- What a call that reads a packet is given: the packet's bytes, where in them it begins, whether fields are recorded, and words
-- to record them in. Bytes, words and shapes lie in cells of a memory.
use Rattle.std.specs.Prelude.{ℕ, ◌<◌, ◌^◌, List, [], ◌∷◌, Bool}
use base.Fraction.{full_share}
use Rattle.std.specs.Int.{w8, w64}
use mir.Val.{Val, vint, vbool, WT}
use base.Logic.{SProp, sep}
use Rattle.std.specs.Borrow.{Share}
use borrow.Fn.World.{World}
use Rattle.rules.specs.Reading.{Input}
use Rattle.rules.specs.Answer.{input_of}
use Rattle.position.specs.declared.PositionSyntax.{PositionSyntax}
use Rattle.position.proofs.PositionSyntax.TheLaws as shape
use Rattle.owner.specs.Cells.{Cells, refilled, Slice, slice}
use Rattle.owner.specs.Holds.{Laid, Numbers}

-- Which function is called: a crate's own, or the one over it that is exported to C and Rust.
pub data Variant : Type 0 where
  plain : Variant
  exported : Variant

-- of the bytes any share
pub record Sent : Type 0 where
  pub share : Share
  pub bytes : Cells ℕ
  pub offset : ℕ
  pub recording : Bool
  pub words : Cells ℕ

pub record SentFits (p : Sent) : Type 0 where
  pub bytes : Slice 1 p.bytes
  pub offset : p.offset < 2 ^ 64
  pub words : Slice 8 p.words

-- the machine's values of the first parameters, and then `rest`
abbrev pub passed : Sent → List Val → List Val
passed p rest = slice p.bytes ∷ vint w64 p.offset ∷ vbool p.recording ∷ slice p.words ∷ rest

abbrev pub input_sent : Sent → Input
input_sent p = input_of p.bytes.held p.recording p.words.held

-- each shape is a value of its type: its three numbers are below 2 ^ 64
abbrev pub AllFit : List PositionSyntax → Type 0
AllFit [] = Unit {0}
AllFit (s ∷ ss) = WT (shape.lowered s) × AllFit ss

module _ (w : World) where
  -- in cells: a share of bytes, words, the shapes of positions, and bytes that are written to
  abbrev pub Bytes : Share → Cells ℕ → SProp w.𝓤
  Bytes = Numbers w w8

  abbrev pub Words : Cells ℕ → SProp w.𝓤
  Words = Numbers w w64 full_share

  abbrev pub Text : Cells ℕ → SProp w.𝓤
  Text = Numbers w w8 full_share

  abbrev pub Shapes : Cells PositionSyntax → SProp w.𝓤
  Shapes = Laid w shape.mir shape.lowered full_share

  -- what is sent, with these words in its cells, beside F
  abbrev pub SentInCells : Sent → List ℕ → SProp w.𝓤 → SProp w.𝓤
  SentInCells p ws F = sep w.𝓤 (Bytes p.share p.bytes) (sep w.𝓤 (Words (refilled p.words ws)) F)
