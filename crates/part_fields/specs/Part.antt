-- What `read_part` answers: one part of a show file, with its fields in the words that are lent.
use Rattle.std.specs.Prelude.{ℕ, ◌-◌, ◌≡◌, List, [], true, Result, Ok, Err, eqb, ltb}
use Rattle.rules.specs.declared.Answer.{Answer}
use Rattle.rules.specs.declared.Field.{Field}
use Rattle.rules.specs.Rule.{pick, refused}
use Rattle.rules.specs.Reading.{Reading, ended_at}
use Rattle.rules.specs.Words.{recorded}
use Rattle.rules.specs.Answer.{answer_of}
use Rattle.position.specs.declared.PositionSyntax.{PositionSyntax}
use Rattle.book.specs.Book.{Packet, packet_of, is_accepted, scene_step, show, step_in, scene_part, update_part, book_first, book_shapes}
use Rattle.show_header.specs.Header.{part_count, part_of, file_question}
use Rattle.show_parts.specs.Parts.{packet, packets}
use Rattle.part_fields.specs.declared.NotRead.{NotRead}
use Rattle.part_fields.specs.declared.NotRead.TheVariants.{NoPart, NoScene}

-- an answer, and the fields that go with it
pub record Listed : Type 0 where
  pub answer : Result Answer NotRead
  pub fields : List Field

-- of a reading, and of a part that is not read
abbrev pub listed : Reading (List PositionSyntax) → Listed
listed x = record { answer = Ok (answer_of x); fields = x.fields }

abbrev pub unlisted : NotRead → Listed
unlisted a = record { answer = Err a; fields = [] }

-- the shapes that the parts before part k leave, each of them read as the show reads it
unfoldable pub shapes_before : List ℕ → ℕ → List PositionSyntax
shapes_before file k = book_shapes show (packets file (k - 1) 1) (book_first show (packet file 0))

-- part k as it is asked for: from a bit on, with recording
abbrev pub part_from : List ℕ → ℕ → ℕ → List ℕ → Packet
part_from file k offset ws = packet_of (part_of file k) offset true ws

-- What is listed of part k, read as the packet p: of an update, if the show reads part 0; ..
unfoldable pub update_listed : List ℕ → ℕ → Packet → Listed
update_listed file k p =
    pick (is_accepted (step_in show scene_step (packet file 0) []).told)
    (listed (update_part p (shapes_before file k)))
    (unlisted NoScene)

-- .. of a file whose header is sound: part 0 is a scene, the others are updates; ..
unfoldable pub sound_listed : List ℕ → ℕ → Packet → Listed
sound_listed file k p = pick (ltb k (part_count file)) (pick (eqb k 0) (listed (scene_part p)) (update_listed file k p)) (unlisted NoPart)

-- .. and of any file.
unfoldable pub part_listed : List ℕ → ℕ → Packet → Listed
part_listed file k p = pick (eqb (file_question file) 0) (sound_listed file k p) (listed (ended_at (refused (file_question file)) 0 0))

-- What the call promises: its answer, and every word. The words of the fields stand at the beginning.
pub record PartAnswered (x : Listed) (ws : List ℕ) (r : Result Answer NotRead) (vs : List ℕ) : Type 0 where
  pub answer : r ≡ x.answer
  pub words : vs ≡ recorded true ws 0 x.fields
