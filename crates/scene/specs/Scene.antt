-- `scene_graph`: the field rules of a scene, and what its reading promises.
use Rattle.std.specs.Prelude.{ℕ, ◌+◌, ◌-◌, ◌≤◌, ◌≡◌, List, [], Bool, true, Result, Ok, Err, IfOk, length, take, drop, replicate}
use Rattle.rules.specs.declared.reason.Reason.{Reason}
use Rattle.rules.specs.Block as block
use Rattle.rules.specs.Leaf as leaf
use Rattle.rules.specs.Rule.{Rule, ◌>>=◌}
use Rattle.rules.specs.Reading.{Reading, Input}
use Rattle.rules.specs.Derived.{drc_count}
use Rattle.rules.specs.Answer.{entry_reading, value_or}
use Rattle.parser.specs.declared.Parser.{Parser}
use Rattle.parser.specs.Met.{Met}
use Rattle.position.specs.declared.PositionSyntax.{PositionSyntax}
use Rattle.position.specs.Shape.{default}
use Rattle.validation.specs.Validation.{largest_rank, if_valid, GraphAnswered}
use Rattle.scene.specs.declared.SceneGraph.{SceneGraph}
use Rattle.scene.specs.declared.SceneAnswer.{SceneAnswer}
use Rattle.positions.specs.Positions.{positions}

-- the shapes of 63 positions before anything is read
unfoldable pub defaults : List PositionSyntax
defaults = replicate 63 default

-- the fields of a scene: the shapes that its validation is asked of
unfoldable pub scene_fields : Rule (List PositionSyntax)
scene_fields = do
  n ← drc_count (block.scene_graph + leaf.count) 6 18
  positions true (replicate n default)

unfoldable pub scene_graph : Rule (List PositionSyntax)
scene_graph = scene_fields >>= if_valid

abbrev pub scene_reading : Input → ℕ → Reading (List PositionSyntax)
scene_reading i offset = entry_reading i 0 offset scene_graph

-- The answer: the shapes of positions 1 to the count, none unless it was read, and the default after them.
pub record SceneAnswered (x : Reading (List PositionSyntax)) (rec : Bool) (ws : List ℕ) (r : SceneAnswer) (vs : List ℕ) : Type 0 where
  pub answered : GraphAnswered x [] rec ws r.graph (take r.count r.shapes) vs
  pub count : r.count ≡ length (value_or [] x.result)
  pub others : drop r.count r.shapes ≡ replicate (63 - r.count) default

-- what the functions inside it promise: the shapes of the rule are the first of 63, and the others are the default; ..
abbrev pub declared : List PositionSyntax → Result ℕ Reason → Result (List PositionSyntax) Reason
declared shapes (Ok n) = Ok (take n shapes)
declared shapes (Err e) = Err e

pub record TookScene (r : Rule (List PositionSyntax)) (p : Parser) (x : Result ℕ Reason) (shapes : List PositionSyntax) (q : Parser) : Type 0 where
  pub met : Met r p (declared shapes x) q
  pub most : IfOk x (λ n. n ≤ 63)
  pub others : IfOk x (λ n. drop n shapes ≡ replicate (63 - n) default)

-- .. and with validation the largest rank of those shapes
abbrev pub count_of : Result SceneGraph Reason → Result ℕ Reason
count_of (Ok g) = Ok g.count
count_of (Err e) = Err e

pub record TookGraph (r : Rule (List PositionSyntax)) (p : Parser) (x : Result SceneGraph Reason) (shapes : List PositionSyntax) (q : Parser) : Type 0 where
  pub took : TookScene r p (count_of x) shapes q
  pub deepest : IfOk x (λ g. g.deepest ≡ largest_rank (take g.count shapes))
