-- Any list of packets can be sent after any accepted scene. The owner has the shapes in cells, puts each packet and its words into
-- new ones, and stores the shapes that a call gives back by value where the others are.
use Prim.Native.Nat.{ℕ, zero, suc, ◌-◌, ◌≤◌}
use mathlib.Core.Path.{◌≡◌, refl, sym, ap₂}
use mathlib.Core.List.{List, [], ◌∷◌, ◌++◌, map}
use mathlib.Core.Logic.{∥∥₁_prop, ∥∥₁_elim, ∥∥₁_map}
use native.Mathlib.Omega.{arith}
use seplogic.Ra.Ura.{Ura}
use base.Fraction.{full_share}
use mir.Syntax.{w8, w64, ty_int}
use mir.Val.{vint, WT}
use base.Logic.{SProp, ent, sep}
use prog.Memory.{Memory}
use prog.Routine.{Env}
use prog.AdequacyRun.{start_mem}
use prog.Wp.{run as bytes_run}
use contract.Adequate.{sat_weaken, start_Satisfies}
use types.Kit.{raw, ◌$◌, ◌∵◌, !, qed, move, done}
use borrow.Fn.World.{World}
use lib.ListN.{length, take, replicate, length-replicate, length-append}
use lib.Seq.{length-take-le, take-append_seam}
use Rattle.position.specs.declared.PositionSyntax.{PositionSyntax}
use Rattle.position.specs.Shape.{default}
use Rattle.position.proofs.PositionSyntax.TheLaws as shape
use Rattle.book.specs.Book.{Packet, Setting}
use Rattle.book.proofs.Settled.{by_setting}
use Rattle.book.proofs.Book.{first_many}
use Rattle.owner.specs.Cells.{Cells, refilled, at_block, Slice}
use Rattle.owner.specs.Machine.{Writes, nothing}
use Rattle.owner.specs.Holds.{◌⊨◌}
use Rattle.owner.proofs.Cells.{writes_on, stores_write, all_numbers, lay, refills}
use Rattle.runs.specs.Sent.{Variant, Sent, SentFits, AllFit, Bytes, Words, Shapes, SentInCells}
use Rattle.runs.specs.Scene.{SceneRead}
use Rattle.runs.specs.Update.{Form, by_value, lent, Counted}
use Rattle.runs.proofs.Sent.{all_shapes}
use Rattle.runs.proofs.Scene.{scene_reads}
use Rattle.runs.proofs.Update.{updates}
use Rattle.claims.proofs.Calls.{accepted_by_step}
use Rattle.claims.specs.Calls.{HasCode, Call, packet_sent, update_gave, Accepted, Next, Run, call_of, shapes_left, none, call, Wanted, packet_wanted, Possible, AllPossible, SentAll}

-- shapes that fit: some of them, and more
fit_take : (n : ℕ) (ss : List PositionSyntax) → AllFit ss → AllFit (take n ss)
fit_take zero ss f = tt
fit_take (suc n) [] f = tt
fit_take (suc n) (s ∷ ss) f = (f.0, fit_take n ss f.1)

fit_append : (ss ts : List PositionSyntax) → AllFit ss → AllFit ts → AllFit (ss ++ ts)
fit_append [] ts f g = g
fit_append (s ∷ ss) ts f g = (f.0, fit_append ss ts f.1 g)

default_fits : WT (shape.lowered default)
default_fits = (tt, (tt, (record { fits = omega arith }, (record { fits = omega arith }, (record { fits = omega arith }, (tt, tt))))))

fit_defaults : (n : ℕ) → AllFit (replicate n default)
fit_defaults zero = tt
fit_defaults (suc n) = (default_fits, fit_defaults n)

-- at most 63 shapes as an array
abbrev array_of : List PositionSyntax → Counted
array_of s = record { shapes = s ++ replicate (63 - length s) default; count = length s }

array_full : (s : List PositionSyntax) → length s ≤ 63 → length (array_of s).shapes ≡ 63
array_full s few =
    let all = length-append s (replicate (63 - length s) default) in
    let rest = length-replicate (63 - length s) default in
    omega arith

few_slice : (d : Cells PositionSyntax) → length d.held ≤ 63 → Slice 40 d
few_slice d few = (omega arith, omega arith)

module _ (w : World) (γ : Env) where
  abbrev 𝓤 : Ura w.M
  𝓤 = w.𝓤

  abbrev ◌∗◌ : SProp 𝓤 → SProp 𝓤 → SProp 𝓤
  P ∗ Q = sep 𝓤 P Q

  infixr 35 ◌∗◌
  third_first : (P Q R F : SProp 𝓤) → ent 𝓤 (P ∗ Q ∗ R ∗ F) (R ∗ P ∗ Q ∗ F)
  third_first P Q R F = qed w.𝓛 (raw P ∷ raw Q ∷ raw R ∷ raw F ∷ []) ∵ move ! (2 ∷ []) $ done !

  -- what is sent, put into new cells of a memory ρ that has P
  record Put {F : Type 0} (q : Wanted F) (ρ : Memory) (P : SProp 𝓤) : Type 1 where
    sent : Sent
    memory : Memory
    wrote : Writes ρ memory
    sent_fits : SentFits sent
    packet_is : packet_sent sent ≡ packet_wanted q
    has : ◌⊨◌ w memory (SentInCells w sent sent.words.held P)

  puts : {F : Type 0} (q : Wanted F) → Possible q → (ρ : Memory) (P : SProp 𝓤) → ◌⊨◌ w ρ P → ∥ Put q ρ P ∥₁
  puts q ok ρ P s =
      let words = at_block (length ρ) q.words in
      ∥∥₁_elim (lay w ρ P (ty_int w64) (map (vint w64) q.words) (all_numbers w64 q.words ok.words) s) ∥∥₁_prop (λ t.
      ∥∥₁_map (lay w t.0 (Words w words ∗ P) (ty_int w8) (map (vint w8) q.bytes) (all_numbers w8 q.bytes ok.bytes) t.2) (λ u. record {
        sent = record {
          share = full_share;
          bytes = at_block (length t.0) q.bytes;
          offset = q.offset;
          recording = q.recording;
          words = words;
        };
        memory = u.0;
        wrote = writes_on t.1 u.1;
        sent_fits = record { bytes = ok.bytes_fit; offset = ok.offset; words = ok.words_fit };
        packet_is = refl;
        has = u.2;
      }))

  -- The owner has the shapes s, at most 63 of them, in cells of a memory that its writes made of σ.
  record Ready (σ : Memory) (s : List PositionSyntax) : Type 2 where
    block : ℕ
    offset : ℕ
    memory : Memory
    wrote : Writes σ memory
    beside : SProp 𝓤
    has : ◌⊨◌ w memory (Shapes w (record { block = block; offset = offset; held = s }) ∗ beside)
    fit : AllFit s
    few : length s ≤ 63

  abbrev held : {σ : Memory} {s : List PositionSyntax} → Ready σ s → Cells PositionSyntax
  held {s = s} r = record { block = r.block; offset = r.offset; held = s }

  -- after a call that left lent shapes in these cells, and after one that gave them back by value, which are stored there
  module _ (p : Sent) (ws : List ℕ) (d : Cells PositionSyntax) (σ : Memory) (B : SProp 𝓤)
      (holds : ◌⊨◌ w σ (SentInCells w p ws (Shapes w d ∗ B))) where
    abbrev others : SProp 𝓤
    others = Bytes w p.share p.bytes ∗ Words w (refilled p.words ws) ∗ B

    shapes_first : ◌⊨◌ w σ (Shapes w d ∗ others)
    shapes_first =
        let words = Words w (refilled p.words ws) in
        sat_weaken 𝓤 w.𝓛.H w.𝓜 σ (third_first (Bytes w p.share p.bytes) words (Shapes w d) B) holds

    ready_there : AllFit d.held → length d.held ≤ 63 → Ready σ d.held
    ready_there fit few = record {
      block = d.block;
      offset = d.offset;
      memory = σ;
      wrote = nothing;
      beside = others;
      has = shapes_first;
      fit = fit;
      few = few;
    }

    ready_stored : (t : List PositionSyntax) → length t ≡ length d.held → AllFit t → length d.held ≤ 63 → ∥ Ready σ t ∥₁
    ready_stored t many fit few =
        ∥∥₁_map (refills w shape.mir shape.lowered d t many (all_shapes t fit) σ others shapes_first) (λ r. record {
          block = d.block;
          offset = d.offset;
          memory = r.0;
          wrote = stores_write shape.mir d.block d.offset (map shape.lowered t) σ r.0 r.1;
          beside = others;
          has = r.2;
          fit = fit;
          few = omega (arith, many, few);
        })

  -- a call that is wanted can be made, and leaves its owner ready for the next
  record Makes (x : Setting) (q : Wanted Form) (σ : Memory) (s : List PositionSyntax) : Type 2 where
    next : Next w γ σ s
    packet_is : packet_sent next.sent ≡ packet_wanted q
    form_is : next.form ≡ q.form
    then : (run : Run w γ next) → ∥ Ready run.memory (shapes_left w γ x next run) ∥₁

  -- Where question 39 is not met, the shapes from before are stored.
  makes : (x : Setting) (q : Wanted Form) {σ : Memory} {s : List PositionSyntax} (r : Ready σ s) → Put q r.memory (Shapes w (held r) ∗ r.beside) →
      (f : Form) → f ≡ q.form → Makes x q σ s
  makes x q {σ} {s} r g by_value e = record {
    next = record {
      form = by_value;
      sent = g.sent;
      handed = array_of s;
      memory = g.memory;
      beside = Shapes w (held r) ∗ r.beside;
      wrote = writes_on r.wrote g.wrote;
      sent_fits = g.sent_fits;
      handed_fits = record {
        all = array_full s r.few;
        fit = fit_append s _ r.fit (fit_defaults (63 - length s));
        count = omega (arith, r.few);
      };
      has = g.has;
      count_is = refl;
      found = sym (take-append_seam s (replicate (63 - length s) default));
    };
    packet_is = g.packet_is;
    form_is = e;
    then = λ run.
        let many = length-take-le (length s) run.shapes (omega (arith, run.shapes_many, array_full s r.few, r.few)) in
        let fit = fit_take (length s) run.shapes run.shapes_fit in
        let stored = ready_stored g.sent run.words (held r) run.memory r.beside run.holds in
        by_setting (packet_sent g.sent) s (update_gave w γ run) (λ b. ∥ Ready run.memory b.left ∥₁) x
        (stored (take (length s) run.shapes) many fit r.few)
        (λ _. stored s refl r.fit r.few);
  }
  makes x q {σ} {s} r g (lent v) e = record {
    next = record {
      form = lent v;
      sent = g.sent;
      handed = held r;
      memory = g.memory;
      beside = r.beside;
      wrote = writes_on r.wrote g.wrote;
      sent_fits = g.sent_fits;
      handed_fits = few_slice (held r) r.few;
      has = g.has;
      count_is = refl;
      found = refl;
    };
    packet_is = g.packet_is;
    form_is = e;
    then = λ run.
        let few : length run.shapes ≤ 63 = omega (arith, run.shapes_many, r.few) in
        let cells = refilled (held r) run.shapes in
        by_setting (packet_sent g.sent) s (update_gave w γ run) (λ b. ∥ Ready run.memory b.left ∥₁) x
        ∣ ready_there g.sent run.words cells run.memory r.beside run.holds run.shapes_fit few ∣₁
        (λ _. ready_stored g.sent run.words cells run.memory r.beside run.holds s (sym run.shapes_many) r.fit few);
  }

  -- so can all the calls of a list
  sends : (x : Setting) → HasCode γ → (qs : List (Wanted Form)) → AllPossible qs → {σ : Memory} {s : List PositionSyntax} → Ready σ s → ∥ SentAll w γ x qs σ s ∥₁
  sends x has [] ok {σ} {s} r = ∣ record { calls = []; memory = σ; shapes = s; through = none; packets_are = refl; forms_are = refl } ∣₁
  sends x has (q ∷ qs) ok {σ} {s} r =
      ∥∥₁_elim (puts q ok.0 r.memory (Shapes w (held r) ∗ r.beside) r.has) ∥∥₁_prop (λ g.
      let m = makes x q r g q.form refl in
      let k = m.next in
      ∥∥₁_elim (updates w γ k.form (has.updates k.form) k.sent k.sent_fits k.handed k.handed_fits k.memory k.beside k.has) ∥∥₁_prop (λ run.
      ∥∥₁_elim (m.then run) ∥∥₁_prop (λ next.
      ∥∥₁_map (sends x has qs ok.1 next) (λ rest. record {
        calls = call_of w γ x k run ∷ rest.calls;
        memory = rest.memory;
        shapes = rest.shapes;
        through = call k run rest.through;
        packets_are = ap₂ (λ (p : Packet) (ps : List Packet). p ∷ ps) m.packet_is rest.packets_are;
        forms_are = ap₂ (λ (f : Form) (fs : List Form). f ∷ fs) m.form_is rest.forms_are;
      }))))

  -- the declared shapes of an accepted scene are put into cells of the memory that it left
  ready : (x : Setting) (scene : Call) (s : List PositionSyntax) (σ : Memory) → Accepted w γ x scene s σ → ∥ Ready σ s ∥₁
  ready x scene s σ a =
      let run = a.run in
      let fit : AllFit s = rw a.declared (fit_take run.answer.count run.answer.shapes run.shapes_fit) in
      let rest = SentInCells w a.sent run.words a.beside in
      ∥∥₁_map (lay w σ rest shape.mir (map shape.lowered s) (all_shapes s fit) (rw a.leaves run.holds)) (λ t. record {
        block = length σ;
        offset = 0;
        memory = t.0;
        wrote = t.1;
        beside = rest;
        has = t.2;
        fit = fit;
        few = rw (accepted_by_step w γ x scene s σ a).leaves (first_many x scene.fed);
      })

  pub any_list : (x : Setting) → HasCode γ → (scene : Call) (s : List PositionSyntax) (σ : Memory) → Accepted w γ x scene s σ →
      (qs : List (Wanted Form)) → AllPossible qs → ∥ SentAll w γ x qs σ s ∥₁
  any_list x has scene s σ a qs ok = ∥∥₁_elim (ready x scene s σ a) ∥∥₁_prop (sends x has qs ok)

  -- a scene is read from a memory that has nothing else
  pub any_scene : HasCode γ → (q : Wanted Variant) → Possible q →
      ∥ ((p : Sent) × (σ : Memory) × (F : SProp 𝓤) × (packet_sent p ≡ packet_wanted q) × SceneRead w γ q.form p σ F) ∥₁
  any_scene has q ok =
      let nothing-else = sep 𝓤 (bytes_run 𝓤 w.𝓛.H full_share w8 0 0 []) (bytes_run 𝓤 w.𝓛.H full_share w8 1 0 []) in
      ∥∥₁_elim (puts q ok (start_mem [] []) nothing-else (start_Satisfies 𝓤 w.𝓛.H w.𝓜 [] [] tt tt)) ∥∥₁_prop (λ g.
      ∥∥₁_map (scene_reads w γ q.form (has.scenes q.form) g.sent g.sent_fits g.memory nothing-else g.has) (λ run.
      (g.sent, g.memory, nothing-else, g.packet_is, run)))
