-- A scene, and the answers of a name and of new parents, as they cross to C and Rust: each promise is that of the answer inside.
use Rattle.std.specs.Prelude.{ℕ, ◌≡◌, List, Bool}
use Rattle.rules.specs.Reading.{Reading}
use Rattle.position.specs.declared.PositionSyntax.{PositionSyntax}
use Rattle.scene.specs.declared.SceneAnswer.{SceneAnswer}
use Rattle.scene.specs.Scene.{SceneAnswered}
use Rattle.text.specs.declared.TextAnswer.{TextAnswer}
use Rattle.names.specs.NameAnswer.{NameAnswered}
use Rattle.parent_writer.specs.declared.PacketAnswer.{PacketAnswer}
use Rattle.parent_writer.specs.ParentWriter.{ParentsWritten}
use Rattle.exported.specs.declared.GatewayAnswer.{GatewayAnswer}
use Rattle.exported.specs.Exported.{gateway_answer, exported_graph}
use Rattle.gateway.specs.declared.GatewayScene.{GatewayScene}

pub record SceneExported (x : Reading (List PositionSyntax)) (rec : Bool) (ws : List ℕ) (r : GatewayScene) (vs : List ℕ) : Type 0 where
  pub scene : SceneAnswer
  pub answered : SceneAnswered x rec ws scene vs
  pub same : r ≡ record { answer = exported_graph scene.graph; count = scene.count; shapes = scene.shapes }

pub record NameExported (w number : ℕ) (bytes : List ℕ) (r : GatewayAnswer) (after : List ℕ) : Type 0 where
  pub answer : TextAnswer
  pub named : NameAnswered w number bytes answer after
  pub same : r ≡ gateway_answer answer.outcome answer.position answer.length

pub record ParentsExported (shapes : List PositionSyntax) (parents before : List ℕ) (r : GatewayAnswer) (after : List ℕ) : Type 0 where
  pub answer : PacketAnswer
  pub written : ParentsWritten shapes parents before answer after
  pub same : r ≡ gateway_answer answer.outcome answer.position answer.length
