-- What a function's theorem says of the machine. Called on arguments that it may be called on, from any memory and beside
-- any frame, its routine returns, and what it ensures holds of the result.
use Prim.Native.Nat.{ℕ}
use mathlib.Core.Path.{◌≡◌}
use mathlib.Core.Option.{Option, none, some}
use mathlib.Core.Logic.{∥∥₁_prop, ∥∥₁_elim, ∥∥₁_map}
use seplogic.Ra.Ura.{Ura}
use mir.Val.{Val}
use base.Logic.{SProp, sep, ex, via, comm∗, assoc∗, fst∗, snd∗, mono_l, emp}
use prog.Memory.{Memory}
use prog.Machine.{done}
use prog.Routine.{Routine, Env, any_callee, step}
use prog.Wp.{Heap}
use ghost.Atoms.{Atoms}
use types.Logic.{sem}
use contract.Monad.{fact}
use contract.Lifetimes.{Lfts}
use contract.Running.{Running, tables, strict, within}
use contract.Adequate.{Satisfies, sat_weaken, sat_⇛, sat_ex∗, sat_fact}
use denote.Signature.{Signature}
use denote.Triple.Adequate.{adequate}
use denote.Triple.Bound.{Bound, passed}
use denote.Triple.Clauses.{Ended}
use denote.Triple.End.{Fins, Outs, outs, lasts_of}
use denote.Triple.Entry.{Args, Res}
use denote.Triple.Spec.{Spec, Meets, Back, exits, triple_of}
use borrow.Fn.World.{World}

-- A function's own theorem is said at each way of running routines. It is taken here at the way in which a call is run alone and
-- returns, with no status at which it may stop: `(reading w γ).run` is `w.𝓡.returns`, and a name means what it does in γ.
abbrev pub reading : (w : World) → Env → Running w.𝓤 w.𝓛.H w.𝓜
reading w γ = strict w.𝓤 w.𝓛.H w.𝓜 (within w.𝓤 w.𝓛.H w.𝓜 w.𝓡 γ)

-- A contract whose clauses are ⌜ .. ⌝, at the signature that T has: of the arguments what is required, none where there is
-- no `requires`; and of the arguments, the result and the parameters at exit what is ensured.
pub record Plain (T : Ended) : Type 1 where
  pub requires : Option ((κs : Lfts T.signature.lifetimes) → Args T.signature κs → Type 0)
  pub ensures : (κs : Lfts T.signature.lifetimes) (a : Args T.signature κs) → Res T.signature κs →
      Outs κs T.signature.params T.kept → Type 0

module _ (w : World) (T : Ended) (c : Plain T) (ρ : Routine) where
  abbrev 𝓤 : Ura w.M
  𝓤 = w.𝓤

  abbrev H : Heap 𝓤
  H = w.𝓛.H

  abbrev A : Atoms 𝓤
  A = w.𝓛.A

  abbrev S : Signature
  S = T.signature

  abbrev required : Option ((κs : Lfts S.lifetimes) → Args S κs → Type 0) → (κs : Lfts S.lifetimes) → Args S κs → SProp 𝓤
  required none κs a = emp 𝓤
  required (some P) κs a = fact 𝓤 (P κs a)

  -- the contract as an author writes it
  abbrev pub written : Spec 𝓤 S
  written κs a = record {
    ghost = Unit {0};
    requires = λ _. required c.requires κs a;
    ensures = λ _ r. exits w.𝓛 S T.kept κs a (λ e. fact 𝓤 (c.ensures κs a r e));
  }

  -- the arguments of a call: lifetimes, shares, and at .3 the parameters' values
  abbrev pub Passed : Type 0
  Passed = Bound w.𝓛 S

  -- the memory σ is such that X holds of it
  abbrev Holds : Memory → SProp 𝓤 → Type 1
  Holds σ X = Satisfies 𝓤 H w.𝓜 σ X

  -- the call may be made from the memory σ, with F beside it: the arguments are owned, and what the function requires holds
  abbrev pub MayCall : Passed → Memory → SProp 𝓤 → Type 1
  MayCall x σ F = Holds σ (sep 𝓤 ((triple_of w.𝓛 S written).pre (x, tt)) F)

  -- the parameters at exit, `last` being what they were left with
  abbrev pub exit : (x : Passed) → Fins x.0 S.params T.kept x.3 → Outs x.0 S.params T.kept
  exit x last = outs x.0 S.params T.kept x.3 last

  -- what stands when the call is over, and its part that speaks of the result
  abbrev Left : (x : Passed) → Val → Res S x.0 → SProp 𝓤
  Left x v r = sep 𝓤 (Back w.𝓛 S x v r) ((written x.0 x.3).ensures tt r)

  -- the parameters were left with `last`
  abbrev pub Lasts : (x : Passed) → Fins x.0 S.params T.kept x.3 → SProp 𝓤
  Lasts x last = sem w.𝓛 (lasts_of x.0 S.params T.kept x.3 last)

  -- A run of the routine on the arguments x from the memory σ, beside a frame F: it ends with a machine value and a memory. Of
  -- that one memory hold, together: the value stands for `result`, the parameters were left with `last`, and F is as it was;
  -- and what the function ensures holds of both.
  pub record Returned (x : Passed) (σ : Memory) (F : SProp 𝓤) : Type 1 where
    pub steps : ℕ
    pub value : Val
    pub after : Memory
    pub ran : step ρ steps (passed w.𝓛 S x) σ ≡ done (value, after)
    pub result : Res S x.0
    pub last : Fins x.0 S.params T.kept x.3
    pub stands : Holds after (sep 𝓤 (Lasts x last) (sep 𝓤 (Back w.𝓛 S x value result) F))
    pub ensured : c.ensures x.0 x.3 result (exit x last)

  abbrev Ensured : (x : Passed) → Res S x.0 → Fins x.0 S.params T.kept x.3 → Type 0
  Ensured x r last = c.ensures x.0 x.3 r (exit x last)

  abbrev Ends : (x : Passed) → Res S x.0 → Fins x.0 S.params T.kept x.3 → SProp 𝓤
  Ends x r last = sep 𝓤 (Lasts x last) (fact 𝓤 (Ensured x r last))

  module _ (x : Passed) (F : SProp 𝓤) (τ : Memory) (v : Val) (r : Res S x.0) (left : Holds τ (sep 𝓤 (Left x v r) F)) where
    abbrev E : SProp 𝓤
    E = (written x.0 x.3).ensures tt r

    abbrev B : SProp 𝓤
    B = Back w.𝓛 S x v r

    said : Holds τ (sep 𝓤 (ex 𝓤 (Ends x r)) (sep 𝓤 B F))
    said = sat_weaken 𝓤 H w.𝓜 τ (via 𝓤 (sep 𝓤 (sep 𝓤 E B) F) (mono_l 𝓤 F (comm∗ 𝓤 B E)) (assoc∗ 𝓤 E B F)) left

    module _ (last : Fins x.0 S.params T.kept x.3) (ends : Holds τ (sep 𝓤 (Ends x r last) (sep 𝓤 B F))) where
      stands_so : Holds τ (sep 𝓤 (Lasts x last) (sep 𝓤 B F))
      stands_so = sat_weaken 𝓤 H w.𝓜 τ (mono_l 𝓤 (sep 𝓤 B F) (fst∗ 𝓤 (Lasts x last) (fact 𝓤 (Ensured x r last)))) ends

      holds : ∥ Ensured x r last ∥₁
      holds =
          let all = sep 𝓤 (Ends x r last) (sep 𝓤 B F) in
          sat_fact 𝓤 H w.𝓜 τ all (Ensured x r last)
          (via 𝓤 all (snd∗ 𝓤 (w.𝓜.mem τ) all)
          (via 𝓤 (Ends x r last) (fst∗ 𝓤 (Ends x r last) (sep 𝓤 B F)) (snd∗ 𝓤 (Lasts x last) (fact 𝓤 (Ensured x r last)))))
          ends

  -- `met` is the function's own theorem, so the contract is that of the source
  pub returns : Meets w.𝓛 S (w.𝓡.returns ρ) written → (x : Passed) (σ : Memory) (F : SProp 𝓤) → MayCall x σ F → ∥ Returned x σ F ∥₁
  returns met x σ F may =
      let end = adequate 𝓤 H w.𝓜 (tables 𝓤 H w.𝓜 (strict 𝓤 H w.𝓜 w.𝓡) (λ _. ρ)) (λ s no. no, tt) any_callee (triple_of w.𝓛 S written) met (x, tt) σ F may in
      ∥∥₁_elim end ∥∥₁_prop (λ a.
      let v = a.1 in
      let τ = a.2 in
      ∥∥₁_elim (sat_ex∗ 𝓤 H w.𝓜 τ (Left x v) F (sat_⇛ 𝓤 H w.𝓜 τ (ex 𝓤 (Left x v)) F a.4)) ∥∥₁_prop (λ b.
      let r = b.0 in
      ∥∥₁_elim (sat_ex∗ 𝓤 H w.𝓜 τ (Ends x r) (sep 𝓤 (Back w.𝓛 S x v r) F) (said x F τ v r b.1)) ∥∥₁_prop (λ d.
      ∥∥₁_map (holds x F τ v r b.1 d.0 d.1) (λ f.
      record {
        steps = a.0;
        value = v;
        after = τ;
        ran = a.3;
        result = r;
        last = d.0;
        stands = stands_so x F τ v r b.1 d.0 d.1;
        ensured = f;
      }))))
