-- What `scene-show` prints: a line for each part, then one for each position, and one for the largest rank in these.
use Rattle.std.specs.Prelude.{ℕ, ◌+◌, ◌-◌, ◌≤◌, ◌≡◌, List, [], ◌∷◌, ◌++◌, eqb, length}
use Rattle.rules.specs.declared.Answer.{Answer}
use Rattle.rules.specs.declared.Outcome.{Outcome}
use Rattle.rules.specs.declared.Outcome.TheVariants.{Read, Refused}
use Rattle.rules.specs.Rule.{pick}
use Rattle.rules.specs.Reading.{is_read}
use Rattle.position.specs.declared.PositionSyntax.{PositionSyntax}
use Rattle.book.specs.Book.{Packet, Given, scene_step, show, step_in, book_answers, book_shapes}
use Rattle.text.specs.declared.TextAnswer.{TextAnswer}
use Rattle.text.specs.Text.{line, Put}
use Rattle.show_header.specs.Header.{part_count, file_question}
use Rattle.show_parts.specs.Parts.{packet, packets}
use Rattle.show_lines.specs.Lines.{part_line, shapes_text}

-- the lines of the parts from k on
unfoldable pub part_lines : ℕ → List Given → List ℕ
part_lines k [] = []
part_lines k (g ∷ gs) = part_line k g.graph.answer ++ part_lines (k + 1) gs

-- packets on the shapes s, the first of them being part k: their lines, and what is printed of the shapes after them
unfoldable pub updates_text : ℕ → List Packet → List PositionSyntax → List ℕ
updates_text k ps s = part_lines k (book_answers show ps s) ++ shapes_text (book_shapes show ps s)

-- Part 0 is a scene, the others are updates. If part 0 is refused its line is the only one.
unfoldable pub rest_text : List ℕ → Answer → List PositionSyntax → List ℕ
rest_text file scene s = pick (is_read scene.outcome) (updates_text 1 (packets file (part_count file - 1) 1) s) []

unfoldable pub parts_text : List ℕ → List ℕ
parts_text file =
    let scene = step_in show scene_step (packet file 0) [] in
    part_line 0 scene.told.graph.answer ++ rest_text file scene.told.graph.answer scene.left

unfoldable pub show_text : List ℕ → List ℕ
show_text file = pick (eqb (file_question file) 0) (parts_text file) (line (("file refused ", file_question file) ∷ []))

abbrev pub file_outcome : ℕ → Outcome
file_outcome number = pick (eqb number 0) Read (Refused number)

-- What the call promises: its answer, and every byte. The text stands at the beginning, for which there is room.
pub record ShowAnswered (file before : List ℕ) (r : TextAnswer) (after : List ℕ) : Type 0 where
  pub outcome : r.outcome ≡ file_outcome (file_question file)
  pub position : r.position ≡ 0
  pub text : Put before 0 (show_text file) r.length after
  pub room : r.length ≤ length after
