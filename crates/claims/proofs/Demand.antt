-- Demand 3 is met.
use mathlib.Core.Path.{sym, ◌∙◌, ap}
use mathlib.Core.List.{[], map}
use prog.Routine.{Env}
use borrow.Fn.World.{World}
use lib.ListN.{length}
use Rattle.book.proofs.Calls.{scene_for_parents, packet_for_parents}
use Rattle.owner.proofs.Cells.{one_end, loads}
use Rattle.runs.specs.Sent.{passed}
use Rattle.runs.specs.Scene.{scene_routine, scene_value}
use Rattle.runs.specs.Update.{update_routine, handed_values, all_of, count_of, used, update_value}
use Rattle.runs.proofs.Scene.{scene_reads}
use Rattle.runs.proofs.Update.{updates}
use Rattle.claims.specs.Calls.{HasCode}
use Rattle.claims.specs.Demand.{Demand3}
use Rattle.claims.proofs.Calls.{through_ran, list_claim, makes}
use Rattle.claims.proofs.Any.{any_scene, any_list}

pub demand3 : (w : World) (γ : Env) → HasCode γ → Demand3 w γ
demand3 w γ has = record {
  every_scene = λ x. scene_reads w γ x (has.scenes x);
  every_call = λ f. updates w γ f (has.updates f);
  one_scene = λ x p σ F run v ρ ends.
      one_end (scene_routine γ x) (passed p []) σ v (scene_value x run.answer) ρ run.memory ends run.ran;
  one_call = λ f p h σ F run v ρ ends.
      one_end (update_routine γ f) (passed p (handed_values f h)) σ v (update_value f run.answer run.shapes) ρ run.memory ends run.ran;
  every_list = λ x. makes w γ x has;
  any_scene = any_scene w γ has;
  any_list = λ x. any_list w γ x has;
  loaded = λ τ low q c σ F has. loads w σ q τ c.block F c.offset (map low c.held) has;
  lists = λ x scene s t σ ρ cs a r. list_claim w γ x scene s t σ cs a (through_ran w γ x r);
  counts = λ x scene s σ a.
      let scene_answered = a.run.answered in
      scene_answered.count ∙ ap length (sym scene_answered.answered.answered.value) ∙ ap length (sym a.declared);
  scene_refusals = λ x v p σ F run. scene_for_parents x _ p.offset _ _ run.answered;
  packet_refusals = λ x f p h σ F run. packet_for_parents x _ p.offset _ _ (used f h (all_of f h)) (count_of f h) run.answered;
}
