-- `graph_update`: the field rules of an update, and what its reading promises.
use Rattle.std.specs.Prelude.{ℕ, ◌≡◌, List, [], ◌∷◌, Bool, true, false, Result, IfOk, ◌&&◌, leb, take, drop}
use Rattle.rules.specs.declared.reason.Reason.{Reason}
use Rattle.rules.specs.Rule.{Rule, ◌>>=◌, pick}
use Rattle.rules.specs.Reading.{Reading, Input}
use Rattle.parser.specs.declared.Parser.{Parser}
use Rattle.parser.specs.Met.{Met, giving}
use Rattle.rules.specs.Answer.{entry_reading}
use Rattle.position.specs.declared.PositionSyntax.{PositionSyntax}
use Rattle.position.specs.Formed.{is_shaped}
use Rattle.validation.specs.declared.GraphAnswer.{GraphAnswer}
use Rattle.validation.specs.Validation.{largest_rank, if_valid, GraphAnswered}
use Rattle.positions.specs.Positions.{positions}
use Rattle.update.specs.declared.UpdateAnswer.{UpdateAnswer}

-- the fields of an update: the shapes that its validation is asked of
unfoldable pub update_fields : List PositionSyntax → Rule (List PositionSyntax)
update_fields shapes = positions false shapes

unfoldable pub graph_update : List PositionSyntax → Rule (List PositionSyntax)
graph_update shapes = update_fields shapes >>= if_valid

-- question 2: at most 63 shapes, no precision above 24
unfoldable pub all_shaped : List PositionSyntax → Bool
all_shaped [] = true
all_shaped (sh ∷ shapes) = is_shaped sh && all_shaped shapes

abbrev pub may_update : ℕ → List PositionSyntax → Bool
may_update count shapes = leb count 63 && all_shaped shapes

-- its number, 0 if it is met
abbrev pub shapes_question : ℕ → List PositionSyntax → ℕ
shapes_question count shapes = pick (may_update count shapes) 0 2

-- an update of `count` shapes
abbrev pub update_reading : Input → ℕ → ℕ → List PositionSyntax → Reading (List PositionSyntax)
update_reading i offset count shapes = entry_reading i (shapes_question count shapes) offset (graph_update shapes)

-- What the functions inside it promise: the first `count` shapes are those of the rule, with their largest rank, and the others
-- are as they came.
pub record Entered (r : Rule (List PositionSyntax)) (count : ℕ) (before : List PositionSyntax) (p : Parser) (x : Result ℕ Reason) (after : List PositionSyntax) (q : Parser) : Type 0 where
  pub met : Met r p (giving (take count after) x) q
  pub deepest : IfOk x (λ d. d ≡ largest_rank (take count after))
  pub others : drop count after ≡ drop count before

-- What its reading gives, before it is decided whether it counts: the first `count` shapes if it was read, of which nothing
-- is said if not, and the others as they came.
pub record UpdateGiven (x : Reading (List PositionSyntax)) (count : ℕ) (before : List PositionSyntax) (rec : Bool) (ws : List ℕ) (r : GraphAnswer) (after : List PositionSyntax) (vs : List ℕ) : Type 0 where
  pub answered : GraphAnswered x (take count after) rec ws r (take count after) vs
  pub others : drop count after ≡ drop count before

-- The answer: the first `count` shapes as they were read, as they came unless read, and the others as they came.
pub record UpdateAnswered (x : Reading (List PositionSyntax)) (count : ℕ) (shapes : List PositionSyntax) (rec : Bool) (ws : List ℕ) (r : UpdateAnswer) (vs : List ℕ) : Type 0 where
  pub answered : GraphAnswered x (take count shapes) rec ws r.graph (take count r.shapes) vs
  pub others : drop count r.shapes ≡ drop count shapes
