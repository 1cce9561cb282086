-- The book of demand 3. It is fed the arguments of calls, and nothing that the program keeps; its state is a list of shapes.
use Rattle.std.specs.Prelude.{ℕ, ◌*◌, ◌≡◌, List, [], Bool, true, length, take}
use Rattle.rules.specs.Rule.{pick}
use Rattle.rules.specs.Reading.{Reading, Input, read, is_read}
use Rattle.rules.specs.Words.{encoded}
use Rattle.rules.specs.Answer.{value_or, entry_reading}
use Rattle.position.specs.declared.PositionSyntax.{PositionSyntax}
use Rattle.ranks.specs.Rank.{HaveRanks}
use Rattle.validation.specs.declared.GraphAnswer.{GraphAnswer}
use Rattle.validation.specs.Validation.{parents, graph_answer}
use Rattle.scene.specs.Scene.{scene_fields, scene_reading}
use Rattle.update.specs.Update.{update_fields, shapes_question, update_reading}
use Rattle.book.specs.Step.{After, Step, book_told, book_state}
use Rattle.book.specs.Spare.{spare, too_much_follows, part_reading, part_graph}

-- a call's arguments: bytes, offset, recording or not, how many words its field buffer has
pub record Packet : Type 0 where
  pub bytes : List ℕ
  pub offset : ℕ
  pub recording : Bool
  pub room : ℕ

abbrev pub packet_of : List ℕ → ℕ → Bool → List ℕ → Packet
packet_of bs offset rec ws = record { bytes = bs; offset = offset; recording = rec; room = length ws }

abbrev pub input : Packet → Input
input p = record { bytes = p.bytes; recording = p.recording; room = p.room }

-- An answer as it is compared: whole, the largest rank included, with the words of its counted fields when recording.
pub record Given : Type 0 where
  pub graph : GraphAnswer
  pub words : List ℕ

-- what the rules give
abbrev pub given : Bool → Reading (List PositionSyntax) → Given
given rec x = record { graph = graph_answer x; words = pick rec (encoded x.fields) [] }

-- what a call gave, `ws` being the words that it was lent as it left them
abbrev pub given_by : Bool → GraphAnswer → List ℕ → Given
given_by rec r ws = record { graph = r; words = pick rec (take (5 * r.answer.fields) ws) [] }

-- The rules end in read: the call is accepted.
abbrev pub is_accepted : Given → Bool
is_accepted g = is_read g.graph.answer.outcome

-- The step of a reading: if it ends in read, its shapes become the list; otherwise the list stays.
abbrev pub step_of : Bool → Reading (List PositionSyntax) → List PositionSyntax → After (List PositionSyntax) Given
step_of rec x s = record { told = given rec x; left = value_or s x.result }

-- A scene by the rules, and a packet by the rules, on the book's shapes.
unfoldable pub book_scene : Packet → Reading (List PositionSyntax)
book_scene p = scene_reading (input p) p.offset

unfoldable pub book_reading : Packet → List PositionSyntax → Reading (List PositionSyntax)
book_reading p s = update_reading (input p) p.offset (length s) s

unfoldable pub scene_step : Step Packet (List PositionSyntax) Given
scene_step p s = step_of p.recording (book_scene p) s

unfoldable pub update_step : Step Packet (List PositionSyntax) Given
update_step p s = step_of p.recording (book_reading p s) s

-- Where a call is made. In the library it counts by its own answer. The show asks question 39 after it, and if that is not met, it
-- goes on with the shapes from before.
pub data Setting : Type 0 where
  library : Setting
  show : Setting

-- what a call comes to, which found the shapes s
unfoldable pub settled : Setting → Packet → List PositionSyntax → After (List PositionSyntax) Given →
    After (List PositionSyntax) Given
settled library p s a = a
settled show p s a = record {
  told = record { graph = part_graph p.bytes a.told.graph; words = a.told.words };
  left = pick (too_much_follows p.bytes a.told.graph.answer) s a.left;
}

-- a step, and then what it comes to
abbrev pub step_in : Setting → Step Packet (List PositionSyntax) Given → Step Packet (List PositionSyntax) Given
step_in x step p s = settled x p s (step p s)

-- an accepted call of the show meets question 39
abbrev pub Meets : Setting → Packet → Given → Type 0
Meets library p g = Unit {0}
Meets show p g = is_accepted g ≡ true → spare p.bytes g.graph.answer.position ≡ true

-- A scene and a packet as parts of a show: their readings, and then question 39.
abbrev pub scene_part : Packet → Reading (List PositionSyntax)
scene_part p = part_reading p.bytes (book_scene p)

abbrev pub update_part : Packet → List PositionSyntax → Reading (List PositionSyntax)
update_part p s = part_reading p.bytes (book_reading p s)

-- the book's first list, the shapes of positions 1 to the scene's count: none unless it was accepted
abbrev pub book_first : Setting → Packet → List PositionSyntax
book_first x p = (step_in x scene_step p []).left

-- the book's answers to packets, one after another, and its shapes after them
abbrev pub book_answers : Setting → List Packet → List PositionSyntax → List Given
book_answers x = book_told (step_in x update_step)

abbrev pub book_shapes : Setting → List Packet → List PositionSyntax → List PositionSyntax
book_shapes x = book_state (step_in x update_step)

-- every position has a rank
abbrev pub Ranked : List PositionSyntax → Type 0
Ranked s = HaveRanks (parents s)

-- Otherwise read to its end: nothing refuses it before its validation, which is asked of `next`, the shapes that it would
-- give. Of a scene, and of a packet on `count` shapes s.
abbrev pub SceneWouldGive : Packet → List PositionSyntax → Type 0
SceneWouldGive p next = (entry_reading (input p) 0 p.offset scene_fields).result ≡ read next

abbrev pub PacketWouldGive : Packet → ℕ → List PositionSyntax → List PositionSyntax → Type 0
PacketWouldGive p count s next = (entry_reading (input p) (shapes_question count s) p.offset (update_fields s)).result ≡ read next
