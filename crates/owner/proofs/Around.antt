-- The owner's theorem in the machine's own terms: typed places before the call, and after it.
use Prim.Native.Nat.{ℕ}
use mathlib.Core.Path.{ap, subst}
use mathlib.Core.List.{List, [], ◌∷◌}
use mathlib.Core.Logic.{∥∥₁_map}
use seplogic.Ra.Ura.{Ura}
use base.Fraction.{full_share}
use mir.Val.{Val}
use base.Logic.{SProp, ent, sep, emp, emp∗, id⊢, snd∗}
use base.Fml.{Share, Fml, ftrue}
use prog.Memory.{Memory}
use prog.Routine.{Routine}
use types.Logic.{Logic, sem}
use types.Kit.{‵, raw, ◌⊛◌, ◌$◌, ◌∵◌, !, qed, by, move, use0, use1, split, fjoin, frame, drop, done}
use types.Share.{parts}
use contract.Adequate.{sat_weaken}
use denote.RattleType.{RattleType}
use denote.Memory.{mem, shares}
use denote.Laws.{Is, Tells}
use denote.Steps.{only}
use denote.Triple.Spec.{Meets}
use borrow.Fn.World.{World}
use Rattle.owner.specs.Cells.{refilled}
use Rattle.owner.specs.Machine.{Ran}
use Rattle.owner.specs.Holds.{◌⊨◌}
use Rattle.owner.proofs.Returns.{written}
use Rattle.owner.proofs.Loans.{Kind, shared, mutable, reference, value, Given1, Givens, Fits, words, Left1, Lefts, AsMany, before, after, Made}
use Rattle.owner.proofs.Owner.{T, Says, Requires, Granted, promised}
use Rattle.owner.proofs.Theorem.{owner}
use Rattle.owner.proofs.Contents.{contents}
use Rattle.owner.proofs.Placed.{Placed, placed, parts_out, parts_in}

module _ {n : ℕ} where
  abbrev refill1 : (k : Kind n) → Given1 k → Left1 k → Given1 k
  refill1 (shared j ok R) c l = c
  refill1 (mutable j ok R) c l = refilled c l
  refill1 (reference j ok R one m) c l = refilled c l
  refill1 (value R vals) x l = x

  abbrev pub refill : (ks : List (Kind n)) → Givens ks → Lefts ks → Givens ks
  refill [] xs ls = tt
  refill (k ∷ ks) xs ls = (refill1 k xs.0 ls.0, refill ks xs.1 ls.1)

module _ {M : Type 1} {𝓤 : Ura M} (𝓛 : Logic 𝓤) where
  abbrev ⟦◌⟧ : Fml → SProp 𝓤
  ⟦ P ⟧ = sem 𝓛 P

  module _ {n : ℕ} where
    -- how the elements of each slice lie
    abbrev pub Places1 : Kind n → Type 1
    Places1 (shared j ok R) = Placed 𝓛 R
    Places1 (mutable j ok R) = Placed 𝓛 R
    Places1 (reference j ok R one m) = Placed 𝓛 R
    Places1 (value R vals) = Unit {1}

    abbrev pub Places : List (Kind n) → Type 1
    Places [] = Unit {1}
    Places (k ∷ ks) = Places1 k × Places ks

    -- the machine values of each slice, side by side at its place, and F beside them all
    abbrev pub Around : (ks : List (Kind n)) → Places ks → Givens ks → SProp 𝓤 → SProp 𝓤
    Around [] ps xs F = F
    Around (shared j ok R ∷ ks) ps xs F = sep 𝓤 (placed 𝓛 ps.0 xs.0.0 xs.0.1.block xs.0.1.offset xs.0.1.held)
        (Around ks ps.1 xs.1 F)
    Around (mutable j ok R ∷ ks) ps xs F = sep 𝓤 (placed 𝓛 ps.0 full_share xs.0.block xs.0.offset xs.0.held)
        (Around ks ps.1 xs.1 F)
    Around (reference j ok R one m ∷ ks) ps xs F = sep 𝓤 (placed 𝓛 ps.0 full_share xs.0.block xs.0.offset xs.0.held)
        (Around ks ps.1 xs.1 F)
    Around (value R vals ∷ ks) ps xs F = Around ks ps.1 xs.1 F

  module _ where
    enter_slice : {R : RattleType} (p : Placed 𝓛 R) (q : Share) (b o : ℕ) (l : List R.Denot) (P : Fml) (X F : SProp 𝓤) →
        ent 𝓤 X (sep 𝓤 ⟦ P ⟧ F)
        → ent 𝓤 (sep 𝓤 (placed 𝓛 p q b o l) X) (sep 𝓤 (sep 𝓤 ⟦ parts (mem R) (shares R) q l b o ⟧ ⟦ P ⟧) F)
    enter_slice {R} p q b o l P X F h =
        qed 𝓛 (raw (placed 𝓛 p q b o l) ∷ raw X ∷ []) ∵ use1 𝓛 (‵ (parts (mem R) (shares R) q l b o)) (parts_in 𝓛 p q l b o) $
        move ! (1 ∷ []) $ use1 𝓛 (‵ P ⊛ raw F) h $ split ! $
        move ! (2 ∷ 0 ∷ []) $ fjoin ! $ done !

    enter_value : (P : Fml) (X F : SProp 𝓤) → ent 𝓤 X (sep 𝓤 ⟦ P ⟧ F) → ent 𝓤 X (sep 𝓤 (sep 𝓤 (emp 𝓤) ⟦ P ⟧) F)
    enter_value P X F h = qed 𝓛 (raw X ∷ []) ∵ use1 𝓛 (‵ P ⊛ raw F) h $ split ! $ use0 𝓛 (‵ ftrue) (id⊢ 𝓤 (emp 𝓤)) $ fjoin ! $ done !

    leave_slice : {R : RattleType} (p : Placed 𝓛 R) (q : Share) (b o : ℕ) (l : List R.Denot) (P : Fml) (X F : SProp 𝓤) →
        ent 𝓤 (sep 𝓤 ⟦ P ⟧ F) X
        → ent 𝓤 (sep 𝓤 (sep 𝓤 ⟦ parts (mem R) (shares R) q l b o ⟧ ⟦ P ⟧) F) (sep 𝓤 (placed 𝓛 p q b o l) X)
    leave_slice {R} p q b o l P X F h =
        qed 𝓛 ((‵ (parts (mem R) (shares R) q l b o) ⊛ ‵ P) ∷ raw F ∷ []) ∵ split ! $
        use1 𝓛 (raw (placed 𝓛 p q b o l)) (parts_out 𝓛 p q l b o) $ frame ! $ by ! h

    leave_value : (P : Fml) (X F : SProp 𝓤) → ent 𝓤 (sep 𝓤 ⟦ P ⟧ F) X → ent 𝓤 (sep 𝓤 (sep 𝓤 (emp 𝓤) ⟦ P ⟧) F) X
    leave_value P X F h = qed 𝓛 ((‵ ftrue ⊛ ‵ P) ∷ raw F ∷ []) ∵ split ! $ drop ! $ by ! h

    module _ {n : ℕ} where
      pub enter : (ks : List (Kind n)) (ps : Places ks) (xs : Givens ks) (F : SProp 𝓤) → ent 𝓤 (Around ks ps xs F) (sep 𝓤 ⟦ before ks xs ⟧ F)
      enter [] ps xs F = emp∗ 𝓤 F
      enter (shared j ok R ∷ ks) ps xs F = enter_slice ps.0 xs.0.0 xs.0.1.block xs.0.1.offset xs.0.1.held (before ks xs.1)
          (Around ks ps.1 xs.1 F) F (enter ks ps.1 xs.1 F)
      enter (mutable j ok R ∷ ks) ps xs F = enter_slice ps.0 full_share xs.0.block xs.0.offset xs.0.held (before ks xs.1)
          (Around ks ps.1 xs.1 F) F (enter ks ps.1 xs.1 F)
      enter (reference j ok R one m ∷ ks) ps xs F = enter_slice ps.0 full_share xs.0.block xs.0.offset xs.0.held (before ks xs.1)
          (Around ks ps.1 xs.1 F) F (enter ks ps.1 xs.1 F)
      enter (value R vals ∷ ks) ps xs F = enter_value (before ks xs.1) (Around ks ps.1 xs.1 F) F (enter ks ps.1 xs.1 F)

      pub leave : (ks : List (Kind n)) (ps : Places ks) (xs : Givens ks) (ls : Lefts ks) (F : SProp 𝓤) →
          ent 𝓤 (sep 𝓤 ⟦ after ks xs ls ⟧ F) (Around ks ps (refill ks xs ls) F)
      leave [] ps xs ls F = snd∗ 𝓤 (emp 𝓤) F
      leave (shared j ok R ∷ ks) ps xs ls F =
          leave_slice ps.0 xs.0.0 xs.0.1.block xs.0.1.offset xs.0.1.held (after ks xs.1 ls.1)
          (Around ks ps.1 (refill ks xs.1 ls.1) F) F (leave ks ps.1 xs.1 ls.1 F)
      leave (mutable j ok R ∷ ks) ps xs ls F =
          leave_slice ps.0 full_share xs.0.block xs.0.offset ls.0 (after ks xs.1 ls.1)
          (Around ks ps.1 (refill ks xs.1 ls.1) F) F (leave ks ps.1 xs.1 ls.1 F)
      leave (reference j ok R one m ∷ ks) ps xs ls F =
          leave_slice ps.0 full_share xs.0.block xs.0.offset ls.0 (after ks xs.1 ls.1)
          (Around ks ps.1 (refill ks xs.1 ls.1) F) F (leave ks ps.1 xs.1 ls.1 F)
      leave (value R vals ∷ ks) ps xs ls F = leave_value (after ks xs.1 ls.1) (Around ks ps.1 (refill ks xs.1 ls.1) F) F
          (leave ks ps.1 xs.1 ls.1 F)

module _ (n : ℕ) (ks : List (Kind n)) (R : RattleType) (low : R.Denot → Val) (w : World) (ps : Places w.𝓛 ks) (ρ : Routine)
    (E : Says n ks R) where
  abbrev pub Has : Memory → Givens ks → SProp w.𝓤 → Type 1
  Has σ xs F = ◌⊨◌ w σ (Around w.𝓛 ks ps xs F)

  -- A run of the routine from the memory σ: it ends with the machine's value of `result`, in a memory that has what was left.
  pub record Run (xs : Givens ks) (σ : Memory) (F : SProp w.𝓤) : Type 1 where
    pub result : R.Denot
    pub memory : Memory
    pub ran : Ran ρ (words ks xs) σ (low result) memory
    pub stands_for : Is R result (low result ∷ [])
    pub left : Lefts ks
    pub as_many : AsMany ks xs left
    pub holds : Has memory (refill ks xs left) F
    pub ensured : E (contents ks xs) result left

  module _ (tells : Tells R (Is R) (λ r. low r ∷ [])) where
    -- `met` is the function's own theorem, so that E and what is required are its contract
    pub runs : (requires : Requires n ks R) →
        Meets w.𝓛 (T n ks R).signature (w.𝓡.returns ρ) (written w (T n ks R) (promised n ks R requires E) ρ) →
        Made w.𝓛 ks → (xs : Givens ks) → Granted n ks R requires (contents ks xs) → Fits ks xs →
        (σ : Memory) (F : SProp w.𝓤) → Has σ xs F → ∥ Run xs σ F ∥₁
    runs requires met made xs grant fits σ F has =
        ∥∥₁_map (owner n ks R w ρ E requires xs σ F met made grant fits (sat_weaken w.𝓤 w.𝓛.H w.𝓜 σ (enter w.𝓛 ks ps xs F) has)) (λ t.
        let is = tells t.result (t.value ∷ []) t.stands_for in
        record {
          result = t.result;
          memory = t.memory;
          ran = subst (λ (v : Val). Ran ρ (words ks xs) σ v t.memory) (ap only is) t.ran;
          stands_for = subst (Is R t.result) is t.stands_for;
          left = t.left;
          as_many = t.as_many;
          holds = sat_weaken w.𝓤 w.𝓛.H w.𝓜 t.memory (leave w.𝓛 ks ps xs t.left F) t.holds;
          ensured = t.ensured;
        })
