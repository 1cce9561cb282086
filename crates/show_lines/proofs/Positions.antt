-- The lines of the positions, one by one, as the code puts them.
use Prim.Native.Nat.{ℕ, suc, ◌+◌, ◌-◌, ◌<◌, ◌≤◌}
use mathlib.Core.Path.{◌≡◌}
use mathlib.Core.List.{List, [], ◌++◌}
use native.Mathlib.Omega.{arith}
use lib.ListN.{length, get_or}
use Rattle.ranks.specs.Rank.{rank_of}
use Rattle.show_lines.specs.Lines.{position_line, position_lines}

module _ (ps : List ℕ) (i : ℕ) where
  -- one position, and those after it
  pub position_more : i < length ps → {rank : ℕ} → rank ≡ rank_of ps (i + 1) →
      position_lines ps (length ps - i) i ≡ position_line (i + 1) (get_or ps i 0) rank ++ position_lines ps (length ps - (i + 1)) (i + 1)
  unfolding position_lines
  position_more h e =
      let more : length ps - i ≡ suc (length ps - (i + 1)) = omega arith in
      let back : i + 1 - 1 ≡ i = omega arith in
      rw (more, e, back)

  pub position_end : length ps ≤ i → position_lines ps (length ps - i) i ≡ []
  unfolding position_lines
  position_end h = let none : length ps - i ≡ 0 = omega arith in rw none
