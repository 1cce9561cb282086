-- Validation as a rule, and as a call of its own; and what is answered by all that ends in it.
use Rattle.std.specs.Prelude.{ℕ, ◌≡◌, List, [], map, Bool, true, false, leb, eqb, Ok, Err}
use Rattle.std.specs.Prelude as std
use Rattle.rules.specs.declared.reason.Reason.{Reason}
use Rattle.rules.specs.Reason.{end_of}
use Rattle.rules.specs.declared.Outcome.{Outcome}
use Rattle.rules.specs.declared.Outcome.TheVariants.{Read, Refused, Stopped}
use Rattle.rules.specs.Rule.{Rule, done, refused, ◌>>=◌, pick}
use Rattle.rules.specs.Reading.{Reading, Result, read, ended, Input, reading, ended_at, is_read}
use Rattle.rules.specs.Derived.{demand}
use Rattle.rules.specs.Answer.{answer_of, end_outcome, Answered}
use Rattle.position.specs.declared.PositionSyntax.{PositionSyntax}
use Rattle.ranks.specs.Rank.{HaveLargest, verdict, deepest, ForParents}
use Rattle.validation.specs.declared.GraphAnswer.{GraphAnswer}

abbrev pub parents : List PositionSyntax → List ℕ
parents = map (λ s. s.parent)

-- `validate_graph`
unfoldable pub validate_graph : List PositionSyntax → Rule (Unit {0})
validate_graph shapes = let n = verdict (parents shapes) in demand (eqb n 0) (refused n)

-- the shapes that a reading gives are validated after the last of them
abbrev pub if_valid : List PositionSyntax → Rule (List PositionSyntax)
if_valid shapes = validate_graph shapes >>= (λ _. done shapes)

-- a reading that is refused for its parents: a refusal, and its number is 8 or 9
abbrev pub RefusedForParents : Outcome → Type 0
RefusedForParents Read = ⊥
RefusedForParents (Refused n) = ForParents n
RefusedForParents (Stopped n) = ⊥

-- the largest rank of shapes
abbrev pub largest_rank : List PositionSyntax → ℕ
largest_rank shapes = deepest (parents shapes)

-- What is answered: beside the answer of the reading, the largest rank of the shapes that it gives, 0 unless it was read.
abbrev pub deepest_of : Result (List PositionSyntax) → ℕ
deepest_of (read shapes) = largest_rank shapes
deepest_of (ended x) = 0

abbrev pub graph_answer : Reading (List PositionSyntax) → GraphAnswer
graph_answer x = record { answer = answer_of x; deepest = deepest_of x.result }

-- and the answer of code that came to a largest rank, or to a reason
abbrev pub graph_ended : std.Result ℕ Reason → ℕ → ℕ → GraphAnswer
graph_ended (Ok d) position fields = record { answer = record { outcome = Read; position = position; fields = fields }; deepest = d }
graph_ended (Err e) position fields =
    record { answer = record { outcome = end_outcome (end_of e); position = position; fields = fields }; deepest = 0 }

-- What a call promises of such a reading: `before` stands where nothing was read.
pub record GraphAnswered (x : Reading (List PositionSyntax)) (before : List PositionSyntax) (rec : Bool) (ws : List ℕ) (r : GraphAnswer) (after : List PositionSyntax) (vs : List ℕ) : Type 0 where
  pub answered : Answered x before rec ws r.answer after vs
  pub deepest : r.deepest ≡ deepest_of x.result

-- What such an answer says of the shapes that the call left: if it was read their largest rank, and otherwise 0.
pub record LargestTold (o : Outcome) (d : ℕ) (left : List PositionSyntax) : Type 0 where
  pub of_read : is_read o ≡ true → HaveLargest (parents left) d
  pub of_unread : is_read o ≡ false → d ≡ 0

abbrev pub TellsLargest : GraphAnswer → List PositionSyntax → Type 0
TellsLargest g left = LargestTold g.answer.outcome g.deepest left

-- Validation reads no bits and makes no fields.
abbrev pub no_input : Input
no_input = record { bytes = []; recording = false; room = 0 }

-- Called alone, of `count` shapes: it is handed a position and gives it back.
unfoldable pub validation_reading : ℕ → List PositionSyntax → ℕ → Reading (List PositionSyntax)
validation_reading count shapes at =
    pick (leb count 63) (reading no_input (if_valid shapes) at at 0) (ended_at (refused 2) 0 0)
