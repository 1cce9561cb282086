-- Document 01's worked examples as rows, with the listings of its show in docs/SCENE-FIELDS.md and a show that has two packets in
-- one part, and the one claim that all of them hold of the definitions.
use Rattle.std.specs.Prelude.{ℕ, ◌*◌, ◌/◌, ◌%◌, ◌^◌, ◌≡◌, List, [], ◌∷◌, ◌++◌, map, false, length, take, replicate}
use Prim.Native.String.{String}
use Rattle.rules.specs.declared.Outcome.{Outcome}
use Rattle.rules.specs.declared.Outcome.TheVariants.{Read, Refused, Stopped}
use Rattle.rules.specs.Rule.{Rule}
use Rattle.rules.specs.Reading.{Reading, reading}
use Rattle.rules.specs.Derived.{escaped}
use Rattle.rules.specs.Answer.{outcome_of, value_or}
use Rattle.validation.specs.Validation.{parents}
use Rattle.probability.specs.Probability.{floats}
use Rattle.metadata.specs.Entry.{metadata_reading}
use Rattle.text.specs.Text.{ascii}
use Rattle.book.specs.Book.{Packet, packet_of, input, book_scene, library, book_first, book_reading, book_shapes}
use Rattle.show_header.specs.Header.{file_question}
use Rattle.show_parts.specs.Parts.{packet}
use Rattle.show.specs.Show.{show_text, file_outcome}
use Rattle.part_fields.specs.Part.{part_listed}
use Rattle.listing_claims.specs.Printed.{part_listing}

-- an example of each kind: what is read, from the first bit on and with recording off
pub data Example : Type 0 where
  -- an escaped number of these widths at the start of these bytes
  escaped_in : (bytes widths : List ℕ) → Example
  -- a scene
  scene_in : (bytes : List ℕ) → Example
  -- a packet after a scene and the packets before it, refused ones included
  packet_after : (scene : List ℕ) (before : List (List ℕ)) (bytes : List ℕ) → Example
  -- a show file
  show_in : (file : List ℕ) → Example
  -- a part of one, listed
  part_in : (file : List ℕ) (k : ℕ) → Example
  -- a metadata configuration
  metadata_in : (bytes : List ℕ) → Example
  -- a table's probabilities at precision 32, of these patterns
  probabilities_of : (patterns : List ℕ) → Example

-- and what it gives: the outcome (of a listed part its file's), the bit position, how many fields, and the value, the parents of
-- the shapes, or the printed text
pub record Row : Type 0 where
  pub example : Example
  pub outcome : Outcome
  pub position : ℕ
  pub fields : ℕ
  pub values : List ℕ

abbrev pub row : {A : Type 0} → Example → Reading A → (A → List ℕ) → A → Row
row example x values none = record {
  example = example;
  outcome = outcome_of x.result;
  position = x.position;
  fields = length x.fields;
  values = values (value_or none x.result);
}

abbrev pub whole : {A : Type 0} → List ℕ → Rule A → Reading A
whole bs r = reading (record { bytes = bs; recording = false; room = 0 }) r 0 (8 * length bs) 0

abbrev pub packet_in : List ℕ → Packet
packet_in bs = packet_of bs 0 false []

-- patterns of 32 bits as bytes, most significant first
abbrev pub bytes_of : List ℕ → List ℕ
bytes_of [] = []
bytes_of (x ∷ xs) = x / 2 ^ 24 ∷ x / 2 ^ 16 % 256 ∷ x / 2 ^ 8 % 256 ∷ x % 256 ∷ bytes_of xs

abbrev pub given : Example → Row
given (escaped_in bs widths) = row (escaped_in bs widths) (whole bs (escaped 0 widths)) (λ v. v ∷ []) 0
given (scene_in bs) = row (scene_in bs) (book_scene (packet_in bs)) parents []
given (packet_after scene before bs) =
    let shapes = book_shapes library (map packet_in before) (book_first library (packet_in scene)) in
    row (packet_after scene before bs) (book_reading (packet_in bs) shapes) parents shapes
given (show_in file) = record { example = show_in file; outcome = file_outcome (file_question file); position = 0; fields = 0; values = show_text file }
given (part_in file k) =
    record { example = part_in file k; outcome = file_outcome (file_question file); position = 0; fields = 0; values = part_listing (part_listed file k (packet file k)) }
given (metadata_in bs) = row (metadata_in bs) (metadata_reading (input (packet_in bs)) 0) (λ _. []) tt
given (probabilities_of xs) = row (probabilities_of xs) (whole (bytes_of xs) (floats 0 (length xs))) (λ _. []) tt

abbrev pub AllHold : List Row → Type 0
AllHold [] = Unit {0}
AllHold (r ∷ rs) = (given r.example ≡ r) × AllHold rs

-- the parts of document 01's show
abbrev pub part0 : List ℕ
part0 = 0x0A ∷ 0x00 ∷ 0x80 ∷ 0x80 ∷ 0x00 ∷ 0x80 ∷ []

abbrev pub part1 : List ℕ
part1 = 0xC1 ∷ 0x00 ∷ []

abbrev pub part2 : List ℕ
part2 = 0x70 ∷ []

abbrev pub part3 : List ℕ
part3 = 0xC1 ∷ 0x00 ∷ []

-- and the whole file
abbrev pub show : List ℕ
show =
    0x00 ∷ 0x04 ∷ 0x00 ∷ 0x00 ∷ 0x00 ∷ 0x12 ∷ 0x00 ∷ 0x00 ∷ 0x00 ∷ 0x18 ∷ 0x00 ∷ 0x00 ∷ 0x00 ∷ 0x1A ∷ 0x00 ∷ 0x00 ∷ 0x00 ∷ 0x1B
    ∷ (part0 ++ (part1 ++ (part2 ++ part3)))

-- the same parts, with a second packet behind the one of part 2
abbrev pub two_in_one : List ℕ
two_in_one =
    0x00 ∷ 0x04 ∷ 0x00 ∷ 0x00 ∷ 0x00 ∷ 0x12 ∷ 0x00 ∷ 0x00 ∷ 0x00 ∷ 0x18
    ∷ 0x00 ∷ 0x00 ∷ 0x00 ∷ 0x1A ∷ 0x00 ∷ 0x00 ∷ 0x00 ∷ 0x1D
    ∷ (part0 ++ (part1 ++ ((part2 ++ part3) ++ part3)))

-- the ASCII codes of lines
abbrev pub lines : List String → List ℕ
lines [] = []
lines (l ∷ ls) = ascii l ++ (10 ∷ lines ls)

abbrev pub rows : List Row
rows =
    -- widths 4, 7, 10 on 1111 0000000: value 15
    record { example = escaped_in (0xF0 ∷ 0x00 ∷ []) (4 ∷ 7 ∷ 10 ∷ []); outcome = Read; position = 11; fields = 1; values = 15 ∷ [] } ∷
    -- scenes: no bytes; no position; one that is not there; one whose parent is not declared; one without a parent
    record { example = scene_in []; outcome = Refused 3; position = 0; fields = 0; values = [] } ∷
    record { example = scene_in (0x00 ∷ []); outcome = Read; position = 6; fields = 1; values = [] } ∷
    record { example = scene_in (0x04 ∷ []); outcome = Refused 6; position = 6; fields = 1; values = [] } ∷
    record { example = scene_in (0x04 ∷ 0x00 ∷ 0x04 ∷ 0x00 ∷ []); outcome = Refused 8; position = 30; fields = 11; values = [] } ∷
    record { example = scene_in (0x04 ∷ 0x00 ∷ 0x00 ∷ 0x00 ∷ []); outcome = Read; position = 30; fields = 11; values = 0 ∷ [] } ∷
    -- the show: the second part closes a circle, and is accepted once the third has opened it
    record { example = scene_in part0; outcome = Read; position = 48; fields = 20; values = 0 ∷ 1 ∷ [] } ∷
    record { example = packet_after part0 [] part1; outcome = Refused 9; position = 13; fields = 8; values = 0 ∷ 1 ∷ [] } ∷
    record { example = packet_after part0 (part1 ∷ []) part2; outcome = Read; position = 7; fields = 7; values = 0 ∷ 0 ∷ [] } ∷
    record { example = packet_after part0 (part1 ∷ part2 ∷ []) part3; outcome = Read; position = 13; fields = 8; values = 2 ∷ 0 ∷ [] } ∷
    record {
      example = show_in show;
      outcome = Read;
      position = 0;
      fields = 0;
      values =
          lines
          ("part 0 read 48 fields 20"
          ∷ "part 1 refused 9 at 13"
          ∷ "part 2 read 7 fields 7"
          ∷ "part 3 read 13 fields 8"
          ∷ "position 1 parent 2 rank 2"
          ∷ "position 2 parent 0 rank 1"
          ∷ "deepest 2"
          ∷ []);
    } ∷
    -- its second part, listed; and its fourth part, if the file has lost its last byte
    record {
      example = part_in show 1;
      outcome = Read;
      position = 0;
      fields = 0;
      values =
          lines
          ("0 1 1 ancillary.scene_graph.positions[0].updated"
          ∷ "1 1 1 ancillary.scene_graph.positions[0].parent_update"
          ∷ "2 1 0 ancillary.scene_graph.positions[0].absolute_parent"
          ∷ "3 6 2 ancillary.scene_graph.positions[0].parent_index"
          ∷ "9 1 0 ancillary.scene_graph.positions[0].position_present"
          ∷ "10 1 0 ancillary.scene_graph.positions[0].rotation_present"
          ∷ "11 1 0 ancillary.scene_graph.positions[0].extensions_present"
          ∷ "12 1 0 ancillary.scene_graph.positions[1].updated"
          ∷ "refused 9 at 13: a chain of parents closes a circle"
          ∷ []);
    } ∷
    record {
      example = part_in (take 28 show) 3;
      outcome = Read;
      position = 0;
      fields = 0;
      values =
          lines
          ("0 1 1 ancillary.scene_graph.positions[0].updated"
          ∷ "1 1 1 ancillary.scene_graph.positions[0].parent_update"
          ∷ "2 1 0 ancillary.scene_graph.positions[0].absolute_parent"
          ∷ "refused 3 at 3: the bits asked for are not there"
          ∷ []);
    } ∷
    -- two packets in its third part: 17 bits follow the first, so the shapes are those from before it, and its fourth part closes a
    -- circle too; and the third part, listed
    record {
      example = show_in two_in_one;
      outcome = Read;
      position = 0;
      fields = 0;
      values =
          lines
          ("part 0 read 48 fields 20"
          ∷ "part 1 refused 9 at 13"
          ∷ "part 2 refused 39 at 7"
          ∷ "part 3 refused 9 at 13"
          ∷ "position 1 parent 0 rank 1"
          ∷ "position 2 parent 1 rank 2"
          ∷ "deepest 2"
          ∷ []);
    } ∷
    record {
      example = part_in two_in_one 2;
      outcome = Read;
      position = 0;
      fields = 0;
      values =
          lines
          ("0 1 0 ancillary.scene_graph.positions[0].updated"
          ∷ "1 1 1 ancillary.scene_graph.positions[1].updated"
          ∷ "2 1 1 ancillary.scene_graph.positions[1].parent_update"
          ∷ "3 1 1 ancillary.scene_graph.positions[1].absolute_parent"
          ∷ "4 1 0 ancillary.scene_graph.positions[1].position_present"
          ∷ "5 1 0 ancillary.scene_graph.positions[1].rotation_present"
          ∷ "6 1 0 ancillary.scene_graph.positions[1].extensions_present"
          ∷ "refused 39 at 7: eight or more bits follow, or one of them is 1"
          ∷ []);
    } ∷
    -- a file of no bytes
    record { example = show_in []; outcome = Refused 24; position = 0; fields = 0; values = lines ("file refused 24" ∷ []) } ∷
    -- metadata: no configuration; one of nothing
    record { example = metadata_in (0x00 ∷ []); outcome = Refused 10; position = 2; fields = 2; values = [] } ∷
    record { example = metadata_in (0x40 ∷ []); outcome = Read; position = 7; fields = 4; values = [] } ∷
    -- headphones of 2 bytes: 3 channels are one bit too many, 2 leave two bits of padding
    record { example = metadata_in (0x63 ∷ 0xE0 ∷ 0x04 ∷ 0x08 ∷ []); outcome = Refused 18; position = 30; fields = 7; values = [] } ∷
    record { example = metadata_in (0x63 ∷ 0xE0 ∷ 0x04 ∷ 0x04 ∷ 0x00 ∷ 0x00 ∷ []); outcome = Read; position = 42; fields = 11; values = [] } ∷
    -- a compression of type 0 in one byte: an initial width of 8, and one of 16
    record { example = metadata_in (0x81 ∷ 0x38 ∷ 0x80 ∷ []); outcome = Read; position = 22; fields = 8; values = [] } ∷
    record { example = metadata_in (0x81 ∷ 0x78 ∷ []); outcome = Stopped 35; position = 16; fields = 5; values = [] } ∷
    -- a matrix of order 1 and layout 00010001 (hexadecimal): four coefficients of 16 bits after their scale
    record { example = metadata_in (0x42 ∷ 0x18 ∷ 0xF8 ∷ 0x74 ∷ 0x40 ∷ 0x00 ∷ 0x40 ∷ 0x00 ∷ 0x40 ∷ replicate 12 0); outcome = Read; position = 163; fields = 15; values = [] } ∷
    -- probabilities: 2^-24 added to 1 is lost, and again; two of them before it are not; -0 passes
    record { example = probabilities_of (0x3F80_0000 ∷ 0x3380_0000 ∷ 0x3380_0000 ∷ 0 ∷ []); outcome = Read; position = 128; fields = 4; values = [] } ∷
    record { example = probabilities_of (0x3380_0000 ∷ 0x3380_0000 ∷ 0x3F80_0000 ∷ 0 ∷ []); outcome = Refused 22; position = 128; fields = 4; values = [] } ∷
    record { example = probabilities_of (0x8000_0000 ∷ 0x3F80_0000 ∷ []); outcome = Read; position = 64; fields = 2; values = [] } ∷
    []
