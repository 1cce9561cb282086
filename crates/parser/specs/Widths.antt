-- Widths of numbers that can be read.
use Rattle.std.specs.Prelude.{ℕ, ◌≤◌, List, [], ◌∷◌, get_or}

abbrev pub Narrow : List ℕ → Type 0
Narrow [] = Unit {0}
Narrow (w ∷ ws) = (w ≤ 64) × Narrow ws

-- the three widths of an escaped number, whose parts and their sum are small
pub record Widths (widths : List ℕ) : Type 0 where
  pub first : get_or widths 0 0 ≤ 20
  pub second : get_or widths 1 0 ≤ 20
  pub third : get_or widths 2 0 ≤ 20
