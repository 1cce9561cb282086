-- The claim on lists of calls, from what the record of each run says.
use Prim.Native.Nat.{ℕ, zero, suc}
use mathlib.Core.Path.{◌≡◌, refl, sym, ◌∙◌, ap, subst}
use mathlib.Core.List.{List, [], ◌∷◌}
use mathlib.Core.Logic.{∥∥₁_prop, ∥∥₁_elim, ∥∥₁_map}
use prog.Memory.{Memory}
use prog.Routine.{Env}
use borrow.Fn.World.{World}
use lib.ListN.{length}
use Rattle.position.specs.declared.PositionSyntax.{PositionSyntax}
use Rattle.validation.specs.Validation.{TellsLargest}
use Rattle.book.specs.Step as book
use Rattle.book.specs.Step.{Ran, ByStep, all_fed}
use Rattle.book.specs.Book.{is_accepted, scene_step, update_step, Setting, settled, step_in, Meets}
use Rattle.book.proofs.Steps.{booked}
use Rattle.book.proofs.Settled.{accepted_left, meets_in}
use Rattle.book.proofs.Book.{first_ranked, scene_tells, update_tells, update_leaves, shapes_many, shapes_ranked}
use Rattle.book.proofs.Calls.{scene_by_step, update_by_step}
use Rattle.runs.specs.Update.{all_of, count_of, used}
use Rattle.runs.proofs.Update.{updates}
use Rattle.claims.specs.Calls.{HasCode, Call, packet_sent, scene_gave, update_gave, Accepted, Next, Run, call_of, shapes_left, Through, none, call, Owner, Called, ListClaim}

module _ (w : World) (γ : Env) (x : Setting) where
  -- a scene and a call are by their steps
  pub accepted_by_step : (c : Call) (s : List PositionSyntax) (σ : Memory) → Accepted w γ x c s σ → ByStep (step_in x scene_step) [] c s
  accepted_by_step c s σ a =
      let fed = packet_sent a.sent in
      let gave = scene_gave w γ a.run in
      let kept = accepted_left fed [] gave x (rw a.call_is at a.read) in
      let by = scene_by_step x _ a.sent.offset _ _ a.run.answered in
      rw (a.call_is, a.declared) (rw kept at by)

  run_by_step : {σ : Memory} {s : List PositionSyntax} (k : Next w γ σ s) (run : Run w γ k) →
      ByStep (step_in x update_step) s (call_of w γ x k run) (shapes_left w γ x k run)
  run_by_step {σ} {s} k run =
      let at = used k.form k.handed (all_of k.form k.handed) in
      let count = k.count_is ∙ ap length k.found in
      let fed = packet_sent k.sent in
      let by = update_by_step x _ k.sent.offset _ _ at (count_of k.form k.handed) run.answered count in
      let Steps : List PositionSyntax → Type 0 = λ l.
      let after = settled x fed l (update_gave w γ run) in ByStep (step_in x update_step) l (record { fed = fed; told = after.told }) after.left in
      subst Steps (sym k.found) by

  called_by_step : (s : List PositionSyntax) (c : Call) (t : List PositionSyntax) → Called w γ x s c t → ByStep (step_in x update_step) s c t
  called_by_step s c t k = rw (k.call_is, k.left_are) (run_by_step k.next k.run)

  -- calls through a memory are calls, each on the shapes for it
  pub through_ran : {σ ρ : Memory} {s t : List PositionSyntax} {cs : List Call} → Through w γ x σ s cs ρ t → Ran (Called w γ x) s cs t
  through_ran none = book.none
  through_ran {σ} (call k run r) = book.call (record { from = σ; next = k; run = run; call_is = refl; left_are = refl }) (through_ran r)

  -- what each of them tells of the ranks, and what it meets
  called_tells : (s : List PositionSyntax) (c : Call) (t : List PositionSyntax) → Called w γ x s c t → TellsLargest c.told.graph t
  called_tells s c t k = let by = called_by_step s c t k in rw (by.tells, by.leaves) (update_tells x c.fed s)

  called_meets : (s : List PositionSyntax) (c : Call) (t : List PositionSyntax) → Called w γ x s c t → Meets x c.fed c.told
  called_meets s c t k = rw (called_by_step s c t k).tells (meets_in c.fed s (update_step c.fed s) x)

  next_tells : {m t : List PositionSyntax} {c : Call} {rest : List Call} → Ran (Called w γ x) m (c ∷ rest) t →
      (n : List PositionSyntax) × Called w γ x m c n × Ran (Called w γ x) n rest t × TellsLargest c.told.graph n × Meets x c.fed c.told
  next_tells {m} (book.call {t = n} {c = c} k r) = (n, k, r, called_tells m c n k, called_meets m c n k)

  pub list_claim : (scene : Call) (s t : List PositionSyntax) (σ : Memory) (cs : List Call) → Accepted w γ x scene s σ → Ran (Called w γ x) s cs t →
      ListClaim w γ x scene s cs t
  list_claim scene s t σ cs a r =
      let first = accepted_by_step scene s σ a in
      let all = booked (step_in x update_step) (Called w γ x) called_by_step is_accepted (update_leaves x) r in
      record {
        scene_is = first.tells;
        first_are = first.leaves;
        ranked = rw all.state_is (shapes_ranked x (all_fed cs) s (rw first.leaves (first_ranked x scene.fed)));
        as_many = rw all.state_is (shapes_many x (all_fed cs) s);
        scene_tells = rw (first.tells, first.leaves) (scene_tells x scene.fed);
        scene_meets = rw first.tells (meets_in scene.fed [] (scene_step scene.fed []) x);
        each_tells = λ before rest c e. let at = all.states_are before (c ∷ rest) e in let next = next_tells at.2 in (at.0, next.0, at.1, next.1, next.2, next.3, next.4);
        booked = all;
      }

  -- whoever has a call to make after each call makes them all
  pub makes : HasCode γ → (n : ℕ) (σ : Memory) (s : List PositionSyntax) → Owner w γ x n σ s →
      ∥ ((cs : List Call) × (ρ : Memory) × (t : List PositionSyntax) × Through w γ x σ s cs ρ t × (length cs ≡ n)) ∥₁
  makes has zero σ s o = ∣ ([], σ, s, none, refl) ∣₁
  makes has (suc n) σ s o =
      let k = o.0 in
      ∥∥₁_elim (updates w γ k.form (has.updates k.form) k.sent k.sent_fits k.handed k.handed_fits k.memory k.beside k.has) ∥∥₁_prop (λ run.
      ∥∥₁_map (makes has n run.memory (shapes_left w γ x k run) (o.1 run)) (λ rest.
      (call_of w γ x k run ∷ rest.0, rest.1, rest.2, call k run rest.3, ap suc rest.4)))
