-- What demand 3 takes for granted can be met, in the library and in the show, in any environment that has the functions' code: document
-- 01's scene is accepted, and its three packets, of which the first is refused, are sent after it, one by value, one lent and one exported.
use Prim.Native.Nat.{ℕ, ◌≤◌}
use mathlib.Core.Path.{◌≡◌, refl, ◌∙◌, ap}
use mathlib.Core.List.{List, [], ◌∷◌}
use mathlib.Core.Bool.{true, false}
use mathlib.Core.Logic.{∥∥₁_prop, ∥∥₁_elim, ∥∥₁_map}
use native.Mathlib.Omega.{arith}
use base.Logic.{SProp}
use prog.Memory.{Memory}
use prog.Routine.{Env}
use borrow.Fn.World.{World}
use lib.ListN.{length}
use mir.Syntax.{w8}
use Rattle.rules.specs.declared.Outcome.TheVariants.{Read}
use Rattle.rules.specs.Reading.{is_read}
use Rattle.rules.specs.Answer.{outcome_of}
use Rattle.position.specs.declared.PositionSyntax.{PositionSyntax}
use Rattle.book.specs.Spare.{part_graph}
use Rattle.book.specs.Book.{Packet, is_accepted, book_scene, scene_step, Setting, library, show, settled, step_in}
use Rattle.book.proofs.Calls.{scene_by_step}
use Rattle.owner.specs.Machine.{AllBelow}
use Rattle.runs.specs.Sent.{Variant, plain, exported, Sent}
use Rattle.runs.specs.Scene.{SceneRead}
use Rattle.runs.specs.Update.{Form, by_value, lent}
use Rattle.examples.specs.Rows.{Row, part0, part1, part2, part3}
use Rattle.examples.proofs.Rows.{all_rows, part0_whole}
use Rattle.claims.specs.Calls.{HasCode, Call, packet_sent, packet_wanted, Accepted, Wanted, Possible, AllPossible, SentAll}
use Rattle.claims.proofs.Any.{any_scene, any_list}

-- from bit 0, recording off, no words
abbrev wanted : {F : Type 0} → F → List ℕ → Wanted F
wanted f bytes = record { form = f; bytes = bytes; offset = 0; recording = false; words = [] }

abbrev scene : Wanted Variant
scene = wanted plain part0

abbrev pub packets : List (Wanted Form)
packets = wanted by_value part1 ∷ wanted (lent plain) part2 ∷ wanted (lent exported) part3 ∷ []

possible : {F : Type 0} (f : F) (bytes : List ℕ) → AllBelow w8 bytes → length bytes ≤ 6 → Possible (wanted f bytes)
possible f bytes below few = record {
  bytes = below;
  bytes_fit = (omega arith, omega arith);
  offset = omega arith;
  words = tt;
  words_fit = (omega arith, omega arith);
}

scene_possible : Possible scene
scene_possible = possible plain part0 (omega arith, (omega arith, (omega arith, (omega arith, (omega arith, (omega arith, tt)))))) (omega arith)

packets_possible : AllPossible packets
packets_possible =
    let first = possible by_value part1 (omega arith, (omega arith, tt)) (omega arith) in
    let second = possible (lent plain) part2 (omega arith, tt) (omega arith) in
    let third = possible (lent exported) part3 (omega arith, (omega arith, tt)) (omega arith) in
    (first, (second, (third, tt)))

scene_read : outcome_of (book_scene (packet_wanted scene)).result ≡ Read
scene_read = let row = all_rows.1.1.1.1.1.1.0 in ap (λ (r : Row). r.outcome) row

scene_end : (book_scene (packet_wanted scene)).position ≡ 48
scene_end = let row = all_rows.1.1.1.1.1.1.0 in ap (λ (r : Row). r.position) row

-- it fills its bytes, so that the show accepts it too
scene_accepted : (x : Setting) → is_accepted (step_in x scene_step (packet_wanted scene) []).told ≡ true
unfolding scene_step settled part_graph
scene_accepted library = ap is_read scene_read
scene_accepted show = rw (scene_read, scene_end, part0_whole)

module _ (w : World) (γ : Env) (has : HasCode γ) (x : Setting) where
  accepted : (p : Sent) (σ : Memory) (F : SProp w.𝓤) → packet_sent p ≡ packet_wanted scene → SceneRead w γ plain p σ F →
      (c : Call) × (s : List PositionSyntax) × (ρ : Memory) × Accepted w γ x c s ρ
  accepted p σ F fed run = (
    _,
    _,
    _,
    record {
      variant = plain;
      sent = p;
      memory = σ;
      beside = F;
      run = run;
      call_is = refl;
      read =
          let told = (scene_by_step x p.bytes.held p.offset p.recording p.words.held run.answered).tells in
          ap is_accepted told ∙ ap (λ (q : Packet). is_accepted (step_in x scene_step q []).told) fed ∙ scene_accepted x;
      declared = refl;
      leaves = refl;
    },
  )

  pub worked : ∥ ((c : Call) × (s : List PositionSyntax) × (ρ : Memory) × Accepted w γ x c s ρ × SentAll w γ x packets ρ s) ∥₁
  worked =
      ∥∥₁_elim (any_scene w γ has scene scene_possible) ∥∥₁_prop (λ t.
      let a = accepted t.0 t.1 t.2 t.3 t.4 in
      ∥∥₁_map (any_list w γ x has a.0 a.1 a.2 a.3 packets packets_possible) (λ all. (a.0, a.1, a.2, a.3, all)))
