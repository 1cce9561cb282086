-- The lines that `scene-show` prints.
use Rattle.std.specs.Prelude.{ℕ, zero, suc, ◌+◌, List, [], ◌∷◌, ◌++◌, length}
use Prim.Native.String.{String}
use Rattle.rules.specs.declared.Answer.{Answer}
use Rattle.rules.specs.declared.Outcome.{Outcome}
use Rattle.rules.specs.declared.Outcome.TheVariants.{Read, Refused, Stopped}
use Rattle.position.specs.declared.PositionSyntax.{PositionSyntax}
use Rattle.ranks.specs.Rank.{parent_of, rank_of}
use Rattle.validation.specs.Validation.{parents, largest_rank}
use Rattle.text.specs.Text.{line}

-- how a part ended
abbrev pub ending : Outcome → ℕ → ℕ → List (String × ℕ)
ending Read position fields = (" read ", position) ∷ (" fields ", fields) ∷ []
ending (Refused n) position fields = (" refused ", n) ∷ (" at ", position) ∷ []
ending (Stopped n) position fields = (" stopped ", n) ∷ (" at ", position) ∷ []

unfoldable pub part_line : ℕ → Answer → List ℕ
part_line k a = line (("part ", k) ∷ ending a.outcome a.position a.fields)

unfoldable pub position_line : ℕ → ℕ → ℕ → List ℕ
position_line i parent rank = line (("position ", i) ∷ (" parent ", parent) ∷ (" rank ", rank) ∷ [])

-- the lines of the n positions after i
unfoldable pub position_lines : List ℕ → ℕ → ℕ → List ℕ
position_lines ps zero i = []
position_lines ps (suc n) i = position_line (i + 1) (parent_of ps (i + 1)) (rank_of ps (i + 1)) ++ position_lines ps n (i + 1)

unfoldable pub deepest_line : ℕ → List ℕ
deepest_line d = line (("deepest ", d) ∷ [])

-- what is printed of shapes: the lines of their positions, and then the largest rank in these
abbrev pub shapes_text : List PositionSyntax → List ℕ
shapes_text shapes = position_lines (parents shapes) (length (parents shapes)) 0 ++ deepest_line (largest_rank shapes)
