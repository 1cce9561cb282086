-- Demand 1, of every call: what it may answer, and what it leaves of all that it was lent. docs/DECISIONS.md holds it beside the
-- customer's words.
use Rattle.std.specs.Prelude.{ℕ, ◌*◌, ◌≤◌, ◌<◌, ◌≡◌, List, [], ◌∷◌, Bool, true, false, ◌⊎◌, length, take, drop, Result, Ok, Err}
use Rattle.rules.specs.declared.Answer.{Answer}
use Rattle.rules.specs.declared.Outcome.{Outcome}
use Rattle.rules.specs.declared.Outcome.TheVariants.{Read, Refused}
use Rattle.rules.specs.Reading.{is_read}
use Rattle.rules.specs.Derived.{among}
use Rattle.rules.specs.Answer.{outcome_number, input_of, Answered}
use Rattle.position.specs.declared.PositionSyntax.{PositionSyntax}
use Rattle.position_alone.specs.Entry.{position_reading}
use Rattle.validation.specs.declared.GraphAnswer.{GraphAnswer}
use Rattle.validation.specs.Validation.{RefusedForParents, validation_reading, graph_answer, GraphAnswered, LargestTold}
use Rattle.scene.specs.declared.SceneAnswer.{SceneAnswer}
use Rattle.scene.specs.Scene.{defaults, scene_reading, SceneAnswered}
use Rattle.update.specs.declared.UpdateAnswer.{UpdateAnswer}
use Rattle.update.specs.Update.{update_reading, UpdateAnswered}
use Rattle.metadata.specs.Entry.{metadata_reading}
use Rattle.text.specs.declared.TextAnswer.{TextAnswer}
use Rattle.names.specs.NameAnswer.{name_question, NameAnswered}
use Rattle.bit_writer.specs.Bits.{bytes_for}
use Rattle.parent_writer.specs.declared.PacketAnswer.{PacketAnswer}
use Rattle.parent_writer.specs.ParentWriter.{ParentsWritten}
use Rattle.exported.specs.declared.GatewayAnswer.{GatewayAnswer}
use Rattle.exported.specs.declared.GatewayGraphAnswer.{GatewayGraphAnswer}
use Rattle.gateway.specs.declared.GatewayScene.{GatewayScene}
use Rattle.exported.specs.Exported.{outcome_code, exported_graph, Exported, GraphExported}
use Rattle.gateway.specs.Exported.{SceneExported, NameExported, ParentsExported}
use Rattle.known_names.specs.Known.{Explained}
use Rattle.show_header.specs.Header.{part_of}
use Rattle.show.specs.Show.{ShowAnswered}
use Rattle.part_fields.specs.declared.NotRead.{NotRead}
use Rattle.part_fields.specs.Part.{part_from, part_listed, PartAnswered}

-- from place n on as it came
abbrev pub KeptFrom : {A : Type 0} → ℕ → List A → List A → Type 0
KeptFrom n came left = drop n left ≡ drop n came

-- A reading of the bytes `bs`. It was lent the words `ws`, and `came`; it left `vs`, and `left`.
pub record Kept {A : Type 0} (bs : List ℕ) (rec : Bool) (ws : List ℕ) (came left : A) (vs : List ℕ) (o : Outcome) (position counted : ℕ) : Type 0 where
  -- read, or refused or stopped with a number that has a meaning, at a bit that is not past the bytes
  pub number : Explained o
  pub place : position ≤ 8 * length bs
  -- refused or stopped, it leaves what it was lent as it came
  pub unread : is_read o ≡ false → left ≡ came
  -- however it ended, it writes the five words of each field counted and no other, and none with recording off
  pub words : KeptFrom (5 * counted) ws vs
  pub as_many : length vs ≡ length ws
  pub off : rec ≡ false → vs ≡ ws

-- A scene, which gives its shapes, and the largest rank of them: unless it was read none are counted and all 63 are the default. Those
-- beyond the count always are.
pub record SceneKept (bs : List ℕ) (rec : Bool) (ws : List ℕ) (count : ℕ) (shapes : List PositionSyntax) (vs : List ℕ) (o : Outcome) (position counted deepest : ℕ) : Type 0 where
  pub kept : Kept {A = ℕ × List PositionSyntax} bs rec ws (0, defaults) (count, shapes) vs o position counted
  pub beyond : KeptFrom count defaults shapes
  pub largest : LargestTold o deepest (take count shapes)

-- An update of all shapes, with their largest rank, and one by value, of the first `count`.
pub record LentKept (bs : List ℕ) (rec : Bool) (ws : List ℕ) (came left : List PositionSyntax) (vs : List ℕ) (o : Outcome) (position counted deepest : ℕ) : Type 0 where
  pub kept : Kept bs rec ws came left vs o position counted
  pub largest : LargestTold o deepest left

pub record UpdateKept (bs : List ℕ) (rec : Bool) (ws : List ℕ) (count : ℕ) (came left : List PositionSyntax) (vs : List ℕ) (o : Outcome) (position counted deepest : ℕ) : Type 0 where
  pub kept : Kept bs rec ws came left vs o position counted
  pub beyond : KeptFrom count came left
  pub largest : LargestTold o deepest (take count left)

-- Validation alone, of `count` shapes: it gives the position back that it was handed, and their largest rank, with no fields.
pub record Validated (count : ℕ) (shapes : List PositionSyntax) (at : ℕ) (o : Outcome) (position counted deepest : ℕ) : Type 0 where
  pub largest : LargestTold o deepest shapes
  pub none : counted ≡ 0
  pub back : count ≤ 63 → (position ≡ at) × ((o ≡ Read) ⊎ RefusedForParents o)
  pub too_many : 63 < count → (position ≡ 0) × (o ≡ Refused 2)

-- A call that puts a text of `put` bytes at the beginning of lent bytes, and may be refused by two numbers.
pub record TextKept (first second : ℕ) (came left : List ℕ) (o : Outcome) (position put : ℕ) : Type 0 where
  pub number : (o ≡ Read) ⊎ ((o ≡ Refused first) ⊎ (o ≡ Refused second))
  pub place : position ≡ 0
  pub rest : KeptFrom put came left
  pub as_many : length left ≡ length came

-- the text of a name: refused, the bytes are as they came
pub record NameKept (came left : List ℕ) (o : Outcome) (position put : ℕ) : Type 0 where
  pub kept : TextKept 25 26 came left o position put
  pub unread : (n : ℕ) → o ≡ Refused n → left ≡ came

-- The packet of new parents, of `put` bits at the beginning of lent bytes: refused, there is none, and the bytes are as they came.
pub record PacketKept (came left : List ℕ) (o : Outcome) (position put : ℕ) : Type 0 where
  pub number : (o ≡ Read) ⊎ ((n : ℕ) × (o ≡ Refused n) × (among n (36 ∷ 2 ∷ 37 ∷ 8 ∷ 9 ∷ 38 ∷ []) ≡ true))
  pub place : position ≡ 0
  pub unread : is_read o ≡ false → (put ≡ 0) × (left ≡ came)
  pub room : bytes_for put ≤ length came
  pub rest : KeptFrom (bytes_for put) came left
  pub as_many : length left ≡ length came

-- P of the outcome, the position and the fields of an answer; with the largest rank; ..
abbrev pub Said : (Outcome → ℕ → ℕ → Type 0) → Answer → Type 0
Said P a = P a.outcome a.position a.fields

abbrev pub SaidOfGraph : (Outcome → ℕ → ℕ → ℕ → Type 0) → GraphAnswer → Type 0
SaidOfGraph P g = P g.answer.outcome g.answer.position g.answer.fields g.deepest

abbrev pub SaidOfText : (Outcome → ℕ → ℕ → Type 0) → TextAnswer → Type 0
SaidOfText P a = P a.outcome a.position a.length

abbrev pub SaidOfPacket : (Outcome → ℕ → ℕ → Type 0) → PacketAnswer → Type 0
SaidOfPacket P a = P a.outcome a.position a.length

-- .. and of one that crosses to C and Rust: of the outcome that its two numbers tell
pub record Crossed (P : Outcome → Type 0) (code number : ℕ) : Type 0 where
  pub outcome : Outcome
  pub code_is : code ≡ outcome_code outcome
  pub number_is : number ≡ outcome_number outcome
  pub said : P outcome

abbrev pub AnswerCrossed : (Outcome → ℕ → ℕ → Type 0) → GatewayAnswer → Type 0
AnswerCrossed P r = Crossed (λ o. P o r.position r.counted) r.outcome r.number

abbrev pub GraphCrossed : (Outcome → ℕ → ℕ → ℕ → Type 0) → GatewayGraphAnswer → Type 0
GraphCrossed P r = Crossed (λ o. P o r.position r.counted r.deepest) r.outcome r.number

-- A part of a show, which is lent words alone. One that is not there, or not read for want of a scene, leaves them.
abbrev pub PartKept : List ℕ → List ℕ → Result Answer NotRead → List ℕ → Type 0
PartKept part ws (Ok a) vs = Said (Kept {A = Unit {0}} part true ws tt tt vs) a
PartKept part ws (Err e) vs = vs ≡ ws

-- Whatever the bytes, the offset, the recording, the words and the shapes are: each line is of the functions named above it, and
-- from their contract as it stands in the source.
pub record Demand1 : Type 0 where
  -- `scene::read_scene`
  pub scene : (bs : List ℕ) (offset : ℕ) (rec : Bool) (ws : List ℕ) (r : SceneAnswer) (vs : List ℕ) →
      SceneAnswered (scene_reading (input_of bs rec ws) offset) rec ws r vs → SaidOfGraph (SceneKept bs rec ws r.count r.shapes vs) r.graph
  -- `update::graph_update`
  pub update : (bs : List ℕ) (offset : ℕ) (rec : Bool) (ws : List ℕ) (count : ℕ) (shapes : List PositionSyntax) (r : UpdateAnswer) (vs : List ℕ) →
      UpdateAnswered (update_reading (input_of bs rec ws) offset count (take count shapes)) count shapes rec ws r vs →
      SaidOfGraph (UpdateKept bs rec ws count shapes r.shapes vs) r.graph
  -- `lent::graph_update`
  pub lent_update : (bs : List ℕ) (offset : ℕ) (rec : Bool) (ws : List ℕ) (shapes next : List PositionSyntax) (r : GraphAnswer) (vs : List ℕ) →
      GraphAnswered (update_reading (input_of bs rec ws) offset (length shapes) shapes) shapes rec ws r next vs →
      SaidOfGraph (LentKept bs rec ws shapes next vs) r
  -- `position_alone::read_position` and `lent::read_position`
  pub position : (bs : List ℕ) (offset : ℕ) (rec : Bool) (ws : List ℕ) (shape next : PositionSyntax) (full : Bool) (r : Answer) (vs : List ℕ) →
      Answered (position_reading (input_of bs rec ws) offset shape full) shape rec ws r next vs → Said (Kept bs rec ws shape next vs) r
  -- `metadata::read_metadata`
  pub metadata : (bs : List ℕ) (offset : ℕ) (rec : Bool) (ws : List ℕ) (r : Answer) (vs : List ℕ) →
      Answered (metadata_reading (input_of bs rec ws) offset) tt rec ws r tt vs → Said (Kept {A = Unit {0}} bs rec ws tt tt vs) r
  -- `validation::validate_graph`, of the shapes `take count shapes`, and `lent::validate_graph`, of as many as are lent
  pub validation : (count : ℕ) (shapes : List PositionSyntax) (at : ℕ) (r : GraphAnswer) →
      r ≡ graph_answer (validation_reading count shapes at) → SaidOfGraph (Validated count shapes at) r
  -- `names::name_text`
  pub name : (word : ℕ) (bytes : List ℕ) (r : TextAnswer) (after : List ℕ) →
      NameAnswered word (name_question word (length bytes)) bytes r after → SaidOfText (NameKept bytes after) r
  -- `parent_writer::write_parents`
  pub parents : (shapes : List PositionSyntax) (parents bytes : List ℕ) (r : PacketAnswer) (after : List ℕ) →
      ParentsWritten shapes parents bytes r after → SaidOfPacket (PacketKept bytes after) r
  -- `gateway_scene`, `gateway_update`, `gateway_position`, `gateway_metadata`, `gateway_validation`, `gateway_name` and `gateway_parents`
  pub exported_scene : (bs : List ℕ) (offset : ℕ) (rec : Bool) (ws : List ℕ) (r : GatewayScene) (vs : List ℕ) →
      SceneExported (scene_reading (input_of bs rec ws) offset) rec ws r vs → GraphCrossed (SceneKept bs rec ws r.count r.shapes vs) r.answer
  pub exported_update : (bs : List ℕ) (offset : ℕ) (rec : Bool) (ws : List ℕ) (shapes next : List PositionSyntax) (r : GatewayGraphAnswer) (vs : List ℕ) →
      GraphExported (update_reading (input_of bs rec ws) offset (length shapes) shapes) shapes rec ws r next vs →
      GraphCrossed (LentKept bs rec ws shapes next vs) r
  pub exported_position : (bs : List ℕ) (offset : ℕ) (rec : Bool) (ws : List ℕ) (shape next : PositionSyntax) (full : Bool) (r : GatewayAnswer) (vs : List ℕ) →
      Exported (position_reading (input_of bs rec ws) offset shape full) shape rec ws r next vs → AnswerCrossed (Kept bs rec ws shape next vs) r
  pub exported_metadata : (bs : List ℕ) (offset : ℕ) (rec : Bool) (ws : List ℕ) (r : GatewayAnswer) (vs : List ℕ) →
      Exported (metadata_reading (input_of bs rec ws) offset) tt rec ws r tt vs → AnswerCrossed (Kept {A = Unit {0}} bs rec ws tt tt vs) r
  pub exported_validation : (shapes : List PositionSyntax) (at : ℕ) (r : GatewayGraphAnswer) →
      r ≡ exported_graph (graph_answer (validation_reading (length shapes) shapes at)) → GraphCrossed (Validated (length shapes) shapes at) r
  pub exported_name : (word : ℕ) (bytes : List ℕ) (r : GatewayAnswer) (after : List ℕ) →
      NameExported word (name_question word (length bytes)) bytes r after → AnswerCrossed (NameKept bytes after) r
  pub exported_parents : (shapes : List PositionSyntax) (parents bytes : List ℕ) (r : GatewayAnswer) (after : List ℕ) →
      ParentsExported shapes parents bytes r after → AnswerCrossed (PacketKept bytes after) r
  -- `part_fields::read_part`: the position is one of the part
  pub part : (file : List ℕ) (k offset : ℕ) (ws : List ℕ) (r : Result Answer NotRead) (vs : List ℕ) →
      PartAnswered (part_listed file k (part_from file k offset ws)) ws r vs → PartKept (part_of file k) ws r vs
  -- `show::show`, of a file that is refused too: its line is the text that is put
  pub show : (file before : List ℕ) (r : TextAnswer) (after : List ℕ) →
      ShowAnswered file before r after → SaidOfText (TextKept 23 24 before after) r
