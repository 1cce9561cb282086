-- The owner's theorem.
use Prim.Native.Nat.{ℕ}
use mathlib.Core.Path.{sym, subst}
use mathlib.Core.List.{List, [], ◌∷◌}
use mathlib.Core.Option.{none, some}
use mathlib.Core.Logic.{∥∥₁_prop, ∥∥₁_elim, ∥∥₁_map}
use seplogic.Ra.Ura.{Ura}
use mir.Val.{Val}
use base.Logic.{SProp, ent, sep, ex, emp, via, assoc∗, assoc', mono_l, fst∗, snd∗, id⊢}
use base.Fml.{Fml}
use prog.Memory.{Memory}
use prog.Routine.{Routine}
use prog.Wp.{Heap}
use ghost.Atoms.{Atoms}
use types.Logic.{sem}
use types.Kit.{‵, raw, ◌⊛◌, some as an, later, ◌$◌, ◌∵◌, !, qed, by, move, use0, use1, use3, split, join, pick, drop, frame, await}
use types.Kit.{updating, now as at_once, show, done}
use contract.Monad.{fact, fact_i}
use contract.Lifetimes.{toks}
use contract.Adequate.{Satisfies, sat_weaken, sat_fact, sat_ex∗, sat_⇛}
use denote.RattleType.{RattleType, owns}
use denote.Laws.{Is}
use denote.Exit.{yes}
use denote.Shadow.{shows_shadow}
use denote.Steps.{heard}
use denote.Triple.Spec.{Meets}
use denote.Signature.{types_at}
use denote.Triple.Clauses.{Ended}
use denote.Triple.End.{all, Fins, Outs, outs, lasts_of}
use borrow.Fn.World.{World}
use Rattle.owner.specs.Machine.{Ran}
use Rattle.owner.proofs.Returns.{Plain, Passed, Returned, returns, written}
use Rattle.owner.proofs.Contents.{Contents, contents, read, read_left, read_is, left_is}
use Rattle.owner.proofs.Loans.{Kind, slots, Givens, Fits, Lefts, AsMany, before, after, Names, denots, wordss, lenders}
use Rattle.owner.proofs.Loans.{lefts_of, words_are, Fresh, lifetimes, whole, over, Made}
use Rattle.owner.proofs.Lending.{all_new, all_end, lends_all, backs_all}
use Rattle.owner.proofs.Owner.{T, Says, Requires, Granted, promised, WentWell}

module _ (n : ℕ) (ks : List (Kind n)) (R : RattleType) where
  abbrev S : Ended
  S = T n ks R

  granted : (w : World) (ρ : Routine) (E : Says n ks R) (requires : Requires n ks R) (xs : Givens ks) → Granted n ks R requires (contents ks xs) →
      (αs : Fresh n) (γs : Names ks) →
      ent w.𝓤 (emp w.𝓤) ((written w S (promised n ks R requires E) ρ (lifetimes n αs) (denots (lifetimes n αs) ks xs γs)).requires tt)
  granted w ρ E none xs g αs γs = id⊢ w.𝓤 (emp w.𝓤)
  granted w ρ E (some P) xs g αs γs =
      fact_i w.𝓤 (P (read (lifetimes n αs) ks (denots (lifetimes n αs) ks xs γs))) (emp w.𝓤)
      (subst P (sym (read_is (lifetimes n αs) ks xs γs)) g)

  module _ (w : World) (ρ : Routine) (E : Says n ks R) where
    abbrev Holds : Memory → SProp w.𝓤 → Type 1
    Holds σ P = Satisfies w.𝓤 w.𝓛.H w.𝓜 σ P

    module _ (requires : Requires n ks R) (xs : Givens ks) (σ : Memory) (F : SProp w.𝓤) where
      abbrev 𝓤 : Ura w.M
      𝓤 = w.𝓤

      abbrev H : Heap 𝓤
      H = w.𝓛.H

      abbrev A : Atoms 𝓤
      A = w.𝓛.A

      abbrev ◌∗◌ : SProp 𝓤 → SProp 𝓤 → SProp 𝓤
      P ∗ Q = sep 𝓤 P Q

      infixr 35 ◌∗◌
      abbrev ⟦◌⟧ : Fml → SProp 𝓤
      ⟦ P ⟧ = sem w.𝓛 P

      abbrev c : Plain S
      c = promised n ks R requires E

      abbrev tokens : Fresh n → SProp 𝓤
      tokens αs = toks w.𝓛 n (lifetimes n αs) (whole n)

      abbrev Owned : Fresh n → Names ks → Fml
      Owned αs γs = owns (types_at (slots ks) (lifetimes n αs)) (denots (lifetimes n αs) ks xs γs) (wordss (lifetimes n αs) ks xs)

      abbrev Aside : Fresh n → Names ks → Fml
      Aside αs γs = lenders (lifetimes n αs) ks xs γs

      -- the arguments of the call, as the function's theorem takes them
      abbrev passing : Fresh n → Names ks → Passed w S c ρ
      passing αs γs = (lifetimes n αs, whole n, tt, denots (lifetimes n αs) ks xs γs, wordss (lifetimes n αs) ks xs)

      -- what is required, at whatever lifetimes and names
      abbrev asked : Fresh n → Names ks → SProp 𝓤
      asked αs γs = (written w S c ρ (lifetimes n αs) (denots (lifetimes n αs) ks xs γs)).requires tt

      -- before the call
      abbrev Ready : Fresh n → Names ks → SProp 𝓤
      Ready αs γs = ((tokens αs ∗ ⟦ Owned αs γs ⟧) ∗ asked αs γs) ∗ ⟦ Aside αs γs ⟧

      prepares : Made w.𝓛 ks → Granted n ks R requires (contents ks xs) → Fits ks xs →
          ent 𝓤 ⟦ before ks xs ⟧ (H.⇛ (ex 𝓤 (λ (αs : Fresh n). ex 𝓤 (λ (γs : Names ks). Ready αs γs))))
      prepares made grant fits =
          qed w.𝓛 (‵ (before ks xs) ∷ []) ∵ updating ! $ use0 w.𝓛 (later (an (λ (αs : Fresh n). raw (tokens αs)))) (all_new w.𝓛 n) $ await ! tt $
          pick ! (λ αs. move ! (1 ∷ []) $
          use1 w.𝓛 (later (an (λ (γs : Names ks). ‵ (Owned αs γs) ⊛ ‵ (Aside αs γs)))) (lends_all w.𝓛 (lifetimes n αs) ks made xs fits) $
          await ! tt $ pick ! (λ γs. split ! $ at_once ! $
          -- [owned; the lender's part; the tokens]
          show ! (λ (αs' : Fresh n). ex 𝓤 (λ (γs' : Names ks). Ready αs' γs')) αs $ show ! (λ (γs' : Names ks). Ready αs γs') γs $
          use0 w.𝓛 (raw (asked αs γs)) (granted w ρ E requires xs grant αs γs) $ move ! (3 ∷ 1 ∷ []) $ join ! $ move ! (0 ∷ 1 ∷ []) $ join ! $ done !))

      -- after it
      abbrev Fin : Fresh n → Names ks → Type 0
      Fin αs γs = Fins (lifetimes n αs) (slots ks) (all yes (slots ks)) (denots (lifetimes n αs) ks xs γs)

      abbrev Lasted : (αs : Fresh n) (γs : Names ks) → Fin αs γs → Fml
      Lasted αs γs ls = lasts_of (lifetimes n αs) (slots ks) (all yes (slots ks)) (denots (lifetimes n αs) ks xs γs) ls

      abbrev Settled : Lefts ks → Val → R.Denot → SProp 𝓤
      Settled ls v r = ⟦ after ks xs ls ⟧ ∗ fact 𝓤 (AsMany ks xs ls × Is R r (v ∷ []))

      settles : (αs : Fresh n) (γs : Names ks) (ls : Fin αs γs) (v : Val) (r : R.Denot)
          → ent 𝓤 ((⟦ Lasted αs γs ls ⟧ ∗ (tokens αs ∗ ⟦ R.own_val r (v ∷ []) ⟧)) ∗ ⟦ Aside αs γs ⟧)
          (H.⇛ (Settled (lefts_of (lifetimes n αs) ks xs γs ls) v r))
      settles αs γs ls v r =
          let m = lefts_of (lifetimes n αs) ks xs γs ls in
          qed w.𝓛 ((‵ (Lasted αs γs ls) ⊛ (raw (tokens αs) ⊛ ‵ (R.own_val r (v ∷ [])))) ∷ ‵ (Aside αs γs) ∷ []) ∵ updating ! $
          split ! $ move ! (1 ∷ []) $ split ! $ use1 w.𝓛 (later (‵ (over n αs))) (all_end w.𝓛 n αs) $ await ! tt $ move ! (1 ∷ []) $
          use1 w.𝓛 (raw (fact 𝓤 (Is R r (v ∷ [])))) (shows_shadow w.𝓛 (R.own_val r (v ∷ []))) $ heard ! (Is R r (v ∷ [])) (λ is.
          -- [over; the last values; the lender's part]
          move ! (0 ∷ 2 ∷ 1 ∷ []) $
          use3 w.𝓛 (later (‵ (over n αs) ⊛ (‵ (after ks xs m) ⊛ raw (fact 𝓤 (AsMany ks xs m))))) (backs_all w.𝓛 n αs ks xs γs ls) $ await ! tt $
          split ! $ drop ! $ split ! $
          move ! (1 ∷ []) $ heard ! (AsMany ks xs m) (λ many. at_once ! $ frame ! $
          by ! (fact_i 𝓤 (AsMany ks xs m × Is R r (v ∷ [])) (emp 𝓤) (many, is))))

      abbrev ReturnsAt : Fresh n → Names ks → Type 1
      ReturnsAt αs γs = Returned w S c ρ (passing αs γs) σ (⟦ Aside αs γs ⟧ ∗ F)

      abbrev at_exit : (αs : Fresh n) (γs : Names ks) → ReturnsAt αs γs → Outs (lifetimes n αs) (slots ks) (all yes (slots ks))
      at_exit αs γs t = outs (lifetimes n αs) (slots ks) (all yes (slots ks)) (denots (lifetimes n αs) ks xs γs) t.last

      -- what stands when the call is over, put together
      stands_so : (αs : Fresh n) (γs : Names ks) (t : ReturnsAt αs γs) →
          Holds t.after (Settled (lefts_of (lifetimes n αs) ks xs γs t.last) t.value t.result ∗ F)
      stands_so αs γs t =
          let L = ⟦ Lasted αs γs t.last ⟧ in
          let B = tokens αs ∗ ⟦ R.own_val t.result (t.value ∷ []) ⟧ in
          let D = ⟦ Aside αs γs ⟧ in
          sat_⇛ 𝓤 H w.𝓜 t.after (Settled (lefts_of (lifetimes n αs) ks xs γs t.last) t.value t.result) F
          (sat_weaken 𝓤 H w.𝓜 t.after
          (via 𝓤 ((L ∗ B) ∗ (D ∗ F)) (assoc' 𝓤 L B (D ∗ F))
          (via 𝓤 (((L ∗ B) ∗ D) ∗ F) (assoc' 𝓤 (L ∗ B) D F) (mono_l 𝓤 F (settles αs γs t.last t.value t.result))))
          t.stands)

      went_well : (αs : Fresh n) (γs : Names ks) → ReturnsAt αs γs → ∥ WentWell n ks R w ρ E xs σ F ∥₁
      went_well αs γs t =
          let m = lefts_of (lifetimes n αs) ks xs γs t.last in
          let φ = AsMany ks xs m × Is R t.result (t.value ∷ []) in
          let settled = Settled m t.value t.result in
          let all_of = settled ∗ F in
          let stands = stands_so αs γs t in
          ∥∥₁_map
          (sat_fact 𝓤 H w.𝓜 t.after all_of φ
          (via 𝓤 all_of (snd∗ 𝓤 (w.𝓜.mem t.after) all_of) (via 𝓤 settled (fst∗ 𝓤 settled F) (snd∗ 𝓤 ⟦ after ks xs m ⟧ (fact 𝓤 φ)))) stands)
          (λ f. record {
            value = t.value;
            memory = t.after;
            ran = subst (λ (vs : List Val). Ran ρ vs σ t.value t.after) (words_are (lifetimes n αs) ks xs) (t.steps, t.ran);
            result = t.result;
            stands_for = f.1;
            left = m;
            as_many = f.0;
            holds = sat_weaken 𝓤 H w.𝓜 t.after (mono_l 𝓤 F (fst∗ 𝓤 ⟦ after ks xs m ⟧ (fact 𝓤 φ))) stands;
            ensured = subst (E (contents ks xs) t.result) (left_is (lifetimes n αs) ks xs γs t.last)
                (subst (λ (cs : Contents ks). E cs t.result (read_left (lifetimes n αs) ks (at_exit αs γs t))) (read_is (lifetimes n αs) ks xs γs)
                t.ensured);
          })

      -- THE OWNER'S THEOREM
      pub owner : Meets w.𝓛 S.signature (w.𝓡.returns ρ) (written w S c ρ) → Made w.𝓛 ks → Granted n ks R requires (contents ks xs) → Fits ks xs →
          Holds σ (⟦ before ks xs ⟧ ∗ F) → ∥ WentWell n ks R w ρ E xs σ F ∥₁
      owner met made grant fits holds =
          ∥∥₁_elim (sat_ex∗ 𝓤 H w.𝓜 σ (λ (αs : Fresh n). ex 𝓤 (λ (γs : Names ks). Ready αs γs)) F
          (sat_⇛ 𝓤 H w.𝓜 σ (ex 𝓤 (λ (αs : Fresh n). ex 𝓤 (λ (γs : Names ks). Ready αs γs))) F
          (sat_weaken 𝓤 H w.𝓜 σ (mono_l 𝓤 F (prepares made grant fits)) holds))) ∥∥₁_prop (λ a.
          ∥∥₁_elim (sat_ex∗ 𝓤 H w.𝓜 σ (λ (γs : Names ks). Ready a.0 γs) F a.1) ∥∥₁_prop (λ g.
          let P = (tokens a.0 ∗ ⟦ Owned a.0 g.0 ⟧) ∗ asked a.0 g.0 in
          ∥∥₁_elim (returns w S c ρ met (passing a.0 g.0) σ (⟦ Aside a.0 g.0 ⟧ ∗ F)
          (sat_weaken 𝓤 H w.𝓜 σ (assoc∗ 𝓤 P ⟦ Aside a.0 g.0 ⟧ F) g.1)) ∥∥₁_prop
          (went_well a.0 g.0)))
