-- A program that has this crate's table, and the code of what one of these functions calls, has the code of the function: for the
-- crate `linked`.
use mathlib.Core.Bool.{true}
use prog.Linked.{World, Holds, in_world}
use prog.LinkedThreads.{HasT}
use Rattle.exported.proofs.exported_graph.Symbol.{code as exported_graph_code}
use Rattle.scene.proofs.read_scene.Symbol.{code as read_scene_code}
use Rattle.lent.proofs.graph_update.Symbol.{code as graph_update_code}
use Rattle.gateway.proofs.TheLink.{table, found-gateway::gateway_scene, found-gateway::gateway_update}
use Rattle.gateway.proofs.gateway_scene.Symbol.{code as gateway_scene_code}
use Rattle.gateway.proofs.gateway_scene.TheLink.{has as scene_has}
use Rattle.gateway.proofs.gateway_update.Symbol.{code as gateway_update_code}
use Rattle.gateway.proofs.gateway_update.TheLink.{has as update_has}

module _ (W : World) where
  pub gateway_scene : Holds W "gateway" table → HasT (in_world W) true exported_graph_code → HasT (in_world W) true read_scene_code →
      HasT (in_world W) true gateway_scene_code
  gateway_scene held = scene_has (in_world W) true (found-gateway::gateway_scene W held)

  pub gateway_update : Holds W "gateway" table → HasT (in_world W) true exported_graph_code → HasT (in_world W) true graph_update_code →
      HasT (in_world W) true gateway_update_code
  gateway_update held = update_has (in_world W) true (found-gateway::gateway_update W held)
