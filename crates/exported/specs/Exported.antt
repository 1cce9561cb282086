-- The answers as they cross to C and Rust: document 01's outcome, 0 read, 1 refused, 2 stopped, with its number, in place
-- of the enum; everything else as it is.
use Rattle.std.specs.Prelude.{ℕ, ◌≡◌, List, Bool}
use Rattle.rules.specs.declared.Answer.{Answer}
use Rattle.rules.specs.declared.Outcome.{Outcome}
use Rattle.rules.specs.declared.Outcome.TheVariants.{Read, Refused, Stopped}
use Rattle.rules.specs.Reading.{Reading}
use Rattle.rules.specs.Answer.{outcome_number, Answered}
use Rattle.position.specs.declared.PositionSyntax.{PositionSyntax}
use Rattle.validation.specs.declared.GraphAnswer.{GraphAnswer}
use Rattle.validation.specs.Validation.{GraphAnswered}
use Rattle.exported.specs.declared.GatewayAnswer.{GatewayAnswer}
use Rattle.exported.specs.declared.GatewayGraphAnswer.{GatewayGraphAnswer}

abbrev pub outcome_code : Outcome → ℕ
outcome_code Read = 0
outcome_code (Refused n) = 1
outcome_code (Stopped n) = 2

abbrev pub gateway_answer : Outcome → ℕ → ℕ → GatewayAnswer
gateway_answer o position counted = record { outcome = outcome_code o; number = outcome_number o; position = position; counted = counted }

abbrev pub exported : Answer → GatewayAnswer
exported a = gateway_answer a.outcome a.position a.fields

-- with the largest rank after all that an answer has
abbrev pub exported_graph : GraphAnswer → GatewayGraphAnswer
exported_graph g =
    let a = exported g.answer in
    record { outcome = a.outcome; number = a.number; position = a.position; counted = a.counted; deepest = g.deepest }

-- an answer of which a reading's promise holds, as it crosses
pub record Exported {A : Type 0} (x : Reading A) (a : A) (rec : Bool) (ws : List ℕ) (r : GatewayAnswer) (v : A) (vs : List ℕ) : Type 0 where
  pub answer : Answer
  pub answered : Answered x a rec ws answer v vs
  pub same : r ≡ exported answer

pub record GraphExported (x : Reading (List PositionSyntax)) (before : List PositionSyntax) (rec : Bool) (ws : List ℕ) (r : GatewayGraphAnswer) (after : List PositionSyntax) (vs : List ℕ) : Type 0 where
  pub graph : GraphAnswer
  pub answered : GraphAnswered x before rec ws graph after vs
  pub same : r ≡ exported_graph graph
