-- Plain data in memory, as the machine's typed places alone: a value of the type lies at a place exactly if its machine value
-- is there. So elements side by side are machine values side by side.
use Prim.Native.Nat.{ℕ, ◌+◌}
use mathlib.Core.Path.{◌≡◌, refl, subst}
use mathlib.Core.List.{List, [], ◌∷◌, map}
use seplogic.Ra.Ura.{Ura}
use mir.Syntax.{Width, Ty, ty_int}
use mir.Val.{Val, vint, WT}
use mir.Raw as raws
use base.Logic.{SProp, ent, emp, id⊢, mono∗}
use base.Fml.{Share, Fml, fsep, fat}
use prog.Memory.{size}
use prog.Model.{elems}
use types.Logic.{Logic, sem}
use types.Kit.{‵, raw, ◌$◌, ◌∵◌, !, qed, by, move, use0, use1, rewrite, fsplit, fjoin, fpick, fpack, done}
use types.Run.{well_typed}
use types.Share.{parts}
use denote.RattleType.{RattleType}
use denote.Plain.{UInt, uint_Makes, uint_Tells}
use denote.Copied.{uint_Copied}
use denote.Shadow.{shadow, shows_shadow}
use denote.Memory.{mem, shares, part_at, part_of, cell_raw}
use denote.Steps.{heard}
use contract.Monad.{fact}
use Rattle.owner.proofs.Loans.{Lends}

module _ {M : Type 1} {𝓤 : Ura M} (𝓛 : Logic 𝓤) where
  open 𝓛 use {H}

  abbrev ⟦◌⟧ : Fml → SProp 𝓤
  ⟦ P ⟧ = sem 𝓛 P

  -- a row whose values lie as machine values: its one MIR type, and the machine value of each
  pub record Placed (R : RattleType) : Type 1 where
    pub type : Ty
    pub val : R.Denot → Val
    pub size_is : (mem R).size ≡ size type
    pub goes_out : (q : Share) (x : R.Denot) (b o : ℕ) → ent 𝓤 ⟦ part_at R q x b o ⟧ (H.at q type b o (val x))
    pub comes_in : (q : Share) (x : R.Denot) (b o : ℕ) → ent 𝓤 (H.at q type b o (val x)) ⟦ part_at R q x b o ⟧

  -- a share of machine values side by side
  abbrev pub placed : {R : RattleType} → Placed R → Share → ℕ → ℕ → List R.Denot → SProp 𝓤
  placed p q b o xs = elems 𝓤 H q p.type b o (map p.val xs)

  pub parts_out : {R : RattleType} (p : Placed R) (q : Share) (xs : List R.Denot) (b o : ℕ) →
      ent 𝓤 ⟦ parts (mem R) (shares R) q xs b o ⟧ (placed p q b o xs)
  parts_out p q [] b o = id⊢ 𝓤 (emp 𝓤)
  parts_out {R} p q (x ∷ xs) b o = mono∗ 𝓤 (p.goes_out q x b o)
      (subst (λ (s : ℕ). ent 𝓤 ⟦ parts (mem R) (shares R) q xs b (o + (mem R).size) ⟧ (placed p q b (o + s) xs)) p.size_is
      (parts_out p q xs b (o + (mem R).size)))

  pub parts_in : {R : RattleType} (p : Placed R) (q : Share) (xs : List R.Denot) (b o : ℕ) →
      ent 𝓤 (placed p q b o xs) ⟦ parts (mem R) (shares R) q xs b o ⟧
  parts_in p q [] b o = id⊢ 𝓤 (emp 𝓤)
  parts_in {R} p q (x ∷ xs) b o = mono∗ 𝓤 (p.comes_in q x b o)
      (subst (λ (s : ℕ). ent 𝓤 (placed p q b (o + s) xs) ⟦ parts (mem R) (shares R) q xs b (o + (mem R).size) ⟧) p.size_is
      (parts_in p q xs b (o + (mem R).size)))

  -- a type that owns only facts, with one machine value, of which it says no more than the machine does
  module _ {D : Type 0} (τ : Ty) (own : D → List Val → Fml) (val : D → Val)
      (tells : (x : D) (vs : List Val) → shadow (own x vs) → vs ≡ val x ∷ [])
      (makes : (x : D) (vs : List Val) → shadow (own x vs) → ent 𝓤 (emp 𝓤) ⟦ own x vs ⟧)
      (is : (x : D) → WT (val x) → shadow (own x (val x ∷ []))) where
    pub part_out : (q : Share) (x : D) (b o : ℕ) → ent 𝓤 ⟦ part_of (raws.raw τ ∷ []) own q x b o ⟧ (H.at q τ b o (val x))
    unfolding part_of
    part_out q x b o =
        qed 𝓛 (‵ (part_of (raws.raw τ ∷ []) own q x b o) ∷ []) ∵ fpick ! (λ vs. fsplit ! $ move ! (1 ∷ []) $
        use1 𝓛 (raw (fact 𝓤 (shadow (own x vs)))) (shows_shadow 𝓛 (own x vs)) $ heard ! (shadow (own x vs)) (λ h.
        rewrite ! 0 (λ (us : List Val). ‵ (cell_raw q (raws.raw τ ∷ []) us b o)) (tells x vs h) refl $ by ! (𝓛.laws.raw_at q τ b o (val x))))

    pub part_in : (q : Share) (x : D) (b o : ℕ) → ent 𝓤 (H.at q τ b o (val x)) ⟦ part_of (raws.raw τ ∷ []) own q x b o ⟧
    unfolding part_of
    part_in q x b o =
        qed 𝓛 (‵ (fat q τ b o (val x)) ∷ []) ∵ well_typed ! (λ t. use1 𝓛 (‵ (fat q (raws.raw τ) b o (val x))) (𝓛.laws.at_raw q τ b o (val x)) $
        use0 𝓛 (‵ (own x (val x ∷ []))) (makes x (val x ∷ []) (is x t.1)) $ move ! (1 ∷ 0 ∷ []) $ fjoin ! $
        fpack ! (List Val) (λ vs. fsep (cell_raw q (raws.raw τ ∷ []) vs b o) (own x vs)) (val x ∷ []) $ done !)

  -- numbers lie so
  abbrev pub number_placed : (n : Width) → Placed (UInt n)
  number_placed n = record {
    type = ty_int n;
    val = vint n;
    size_is = refl;
    goes_out = part_out (ty_int n) (UInt n).own_val (vint n) (uint_Tells n) (uint_Makes 𝓛 n) (λ x t. (refl, t.fits));
    comes_in = part_in (ty_int n) (UInt n).own_val (vint n) (uint_Tells n) (uint_Makes 𝓛 n) (λ x t. (refl, t.fits));
  }

  -- and any share of them is lent as `&`
  pub number_lent : (n : Width) → Lends 𝓛 (UInt n)
  number_lent n = (uint_Copied 𝓛 n).lends
