-- How long the lines can be.
use Prim.Native.Nat.{ℕ, zero, suc, ◌+◌, ◌*◌, ◌≤◌}
use mathlib.Core.List.{List, [], ◌∷◌}
use native.Mathlib.Omega.{arith}
use lib.ListN.{length, length-append, length-map}
use Rattle.rules.specs.declared.Answer.{Answer}
use Rattle.rules.specs.declared.Outcome.{Outcome}
use Rattle.rules.specs.declared.Outcome.TheVariants.{Read, Refused, Stopped}
use Rattle.position.specs.declared.PositionSyntax.{PositionSyntax}
use Rattle.ranks.specs.Rank.{parent_of, rank_of}
use Rattle.validation.specs.Validation.{parents, largest_rank}
use Rattle.text.specs.Text.{ascii, line}
use Rattle.text.proofs.Lines.{widest, line_most}
use Rattle.show_lines.specs.Lines.{ending, part_line, position_line, position_lines, deepest_line, shapes_text}

-- No line is longer than 84 bytes: of a part, ..
ending_most : (k : ℕ) (o : Outcome) (position fields : ℕ) → length (line (("part ", k) ∷ ending o position fields)) ≤ 84
unfolding widest ascii
ending_most k Read position fields = let most = line_most (("part ", k) ∷ ending Read position fields) in omega arith
ending_most k (Refused n) position fields = let most = line_most (("part ", k) ∷ ending (Refused n) position fields) in omega arith
ending_most k (Stopped n) position fields = let most = line_most (("part ", k) ∷ ending (Stopped n) position fields) in omega arith

pub part_most : (k : ℕ) (a : Answer) → length (part_line k a) ≤ 84
unfolding part_line
part_most k a = ending_most k a.outcome a.position a.fields

-- .. of a position, ..
position_most : (i parent rank : ℕ) → length (position_line i parent rank) ≤ 84
unfolding position_line widest ascii
position_most i parent rank = let most = line_most (("position ", i) ∷ (" parent ", parent) ∷ (" rank ", rank) ∷ []) in omega arith

positions_most : (ps : List ℕ) (n i : ℕ) → length (position_lines ps n i) ≤ 84 * n
unfolding position_lines
positions_most ps zero i = omega arith
positions_most ps (suc n) i =
    let here = position_line (i + 1) (parent_of ps (i + 1)) (rank_of ps (i + 1)) in
    let a = length-append here (position_lines ps n (i + 1)) in
    let b = position_most (i + 1) (parent_of ps (i + 1)) (rank_of ps (i + 1)) in
    let c = positions_most ps n (i + 1) in
    omega arith

-- .. of the largest rank, ..
deepest_most : (d : ℕ) → length (deepest_line d) ≤ 84
unfolding deepest_line widest ascii
deepest_most d = let most = line_most (("deepest ", d) ∷ []) in omega arith

pub shapes_most : (shapes : List PositionSyntax) → length (shapes_text shapes) ≤ 84 * length shapes + 84
shapes_most shapes =
    let ps = parents shapes in
    let a = positions_most ps (length ps) 0 in
    let b = length-map shapes (λ (sh : PositionSyntax). sh.parent) in
    let c = deepest_most (largest_rank shapes) in
    let d = length-append (position_lines ps (length ps) 0) (deepest_line (largest_rank shapes)) in
    omega arith

-- .. and of a refused file.
pub refused_most : (n : ℕ) → length (line (("file refused ", n) ∷ [])) ≤ 84
unfolding widest ascii
refused_most n = let most = line_most (("file refused ", n) ∷ []) in omega arith
