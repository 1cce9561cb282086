-- The owner's side of a call: what lies in memory is lent for the call and taken back after it.
use Prim.Native.Nat.{ℕ, zero, suc, ◌+◌}
use mathlib.Core.Path.{◌≡◌, refl, ap, subst}
use mathlib.Core.List.{List, [], ◌∷◌}
use seplogic.Ra.Ura.{Ura}
use base.Fraction.{full_share}
use lib.ListN.{length}
use mir.Syntax.{named}
use base.Logic.{SProp, ent, sep, ex, emp, via, id⊢}
use base.Fml.{Share, Fml, ftrue, fsep, flft, fdead, flent, fhide}
use types.Logic.{Logic, sem}
use types.Kit.{‵, raw, ◌⊛◌, some, later, ◌$◌, ◌∵◌, !, qed, by, move, use0, use1, use3, split, pick, drop, fsplit, fjoin, feq_l, feq_i}
use types.Kit.{frame, await, updating, now as at_once, show, done}
use types.Tokens.{lft_new, lft_end, lent_back}
use types.SemTy.{cells, Arr, Body}
use types.Share.{parts, arr_parts}
use contract.Monad.{fact, fact_i}
use contract.Lifetimes.{Lfts, Within, lft_at, toks}
use denote.RattleType.{RattleType, owns}
use denote.Memory.{part_at, mem, shares, shared_of}
use denote.Array.{Array}
use denote.ArrayMemory.{Array-apart, Array-whole}
use denote.Exit.{yes, Last, left}
use denote.Shadow.{pure_i}
use denote.Slice.{shr_slice_at, elements_shared}
use denote.Steps.{heard}
use denote.Lend.{Held, lends_slice, slice_back, lends_ref, ref_back}
use denote.Lends.{Lent, Lent-nothing, Lent-both}
use denote.Signature.{types_at}
use denote.Triple.End.{all, Fins, lasts_of}
use Rattle.owner.proofs.Loans.{Kind, shared, mutable, reference, value, slot, slots, Given1, Givens, Fits1, Fits, words1, Left1, Lefts}
use Rattle.owner.proofs.Loans.{AsMany1, AsMany, before1, after1, before, after, Name1, Names, denot1, denots, wordss, lender1, lenders}
use Rattle.owner.proofs.Loans.{left_of1, lefts_of, Fresh, lifetimes, whole, over, Lends, Made1, Made}

-- whole cells are the whole share of each
cells_parts : (R : RattleType) (xs : List R.Denot) (b o : ℕ) → cells (mem R) xs b o ≡ parts (mem R) (shares R) full_share xs b o
cells_parts R [] b o = refl
cells_parts R (x ∷ xs) b o = ap (fsep (part_at R full_share x b o)) (cells_parts R xs b (o + (mem R).size))

module _ {M : Type 1} {𝓤 : Ura M} (𝓛 : Logic 𝓤) where
  open 𝓛 use {H, A}

  abbrev ◌∗◌ : SProp 𝓤 → SProp 𝓤 → SProp 𝓤
  P ∗ Q = sep 𝓤 P Q

  abbrev ⟦◌⟧ : Fml → SProp 𝓤
  ⟦ P ⟧ = sem 𝓛 P

  infixr 35 ◌∗◌
  parts_in : (R : RattleType) (t : Share) (xs : List R.Denot) (b o : ℕ) →
      ent 𝓤 ⟦ parts (mem R) (shares R) t xs b o ⟧ ⟦ (arr_parts (shares R) (length xs)).part t xs b o ⟧
  parts_in R t xs b o = qed 𝓛 (‵ (parts (mem R) (shares R) t xs b o) ∷ []) ∵ feq_i ! ℕ (length xs) (length xs) refl $ done !

  cells_in : (R : RattleType) (xs : List R.Denot) (b o : ℕ) → ent 𝓤 ⟦ parts (mem R) (shares R) full_share xs b o ⟧ ⟦ cells (mem R) xs b o ⟧
  cells_in R xs b o = subst (λ (P : Fml). ent 𝓤 ⟦ P ⟧ ⟦ cells (mem R) xs b o ⟧) (cells_parts R xs b o) (id⊢ 𝓤 ⟦ cells (mem R) xs b o ⟧)

  cells_out : (R : RattleType) (xs : List R.Denot) (b o : ℕ) → ent 𝓤 ⟦ cells (mem R) xs b o ⟧ ⟦ parts (mem R) (shares R) full_share xs b o ⟧
  cells_out R xs b o = subst (λ (P : Fml). ent 𝓤 ⟦ cells (mem R) xs b o ⟧ ⟦ P ⟧) (cells_parts R xs b o) (id⊢ 𝓤 ⟦ cells (mem R) xs b o ⟧)

  -- ---- lifetimes are made, and ended
  new_step : (n : ℕ) → ent 𝓤 (emp 𝓤) (H.⇛ (ex 𝓤 (λ (αs : Fresh n). toks 𝓛 n (lifetimes n αs) (whole n))))
      → ent 𝓤 (emp 𝓤) (H.⇛ (ex 𝓤 (λ (αs : Fresh (suc n)). toks 𝓛 (suc n) (lifetimes (suc n) αs) (whole (suc n)))))
  new_step n h =
      qed 𝓛 [] ∵ updating ! $ lft_new ! tt (λ α. use0 𝓛 (later (some (λ (αs : Fresh n). raw (toks 𝓛 n (lifetimes n αs) (whole n))))) h $
      await ! tt $ pick ! (λ αs. at_once ! $
      show ! (λ (αs' : Fresh (suc n)). toks 𝓛 (suc n) (lifetimes (suc n) αs') (whole (suc n))) (α, αs) $ move ! (1 ∷ 0 ∷ []) $ done !))

  pub all_new : (n : ℕ) → ent 𝓤 (emp 𝓤) (H.⇛ (ex 𝓤 (λ (αs : Fresh n). toks 𝓛 n (lifetimes n αs) (whole n))))
  all_new zero = qed 𝓛 [] ∵ updating ! $ at_once ! $ show ! (λ (αs : Fresh zero). emp 𝓤) tt $ done !
  all_new (suc n) = new_step n (all_new n)

  end_step : (n : ℕ) (αs : Fresh (suc n)) → ent 𝓤 (toks 𝓛 n (lifetimes n αs.1) (whole n)) (H.⇛ ⟦ over n αs.1 ⟧)
      → ent 𝓤 (toks 𝓛 (suc n) (lifetimes (suc n) αs) (whole (suc n))) (H.⇛ ⟦ over (suc n) αs ⟧)
  end_step n αs h =
      qed 𝓛 (‵ (flft (αs.0 ∷ []) full_share) ∷ raw (toks 𝓛 n (lifetimes n αs.1) (whole n)) ∷ []) ∵ updating ! $ lft_end ! tt $ move ! (1 ∷ []) $
      use1 𝓛 (later (‵ (over n αs.1))) h $ await ! tt $ at_once ! $ move ! (1 ∷ 0 ∷ []) $ fjoin ! $ done !

  pub all_end : (n : ℕ) (αs : Fresh n) → ent 𝓤 (toks 𝓛 n (lifetimes n αs) (whole n)) (H.⇛ ⟦ over n αs ⟧)
  all_end zero αs = qed 𝓛 [] ∵ updating ! $ at_once ! $ done !
  all_end (suc n) αs = end_step n αs (all_end n αs.1)

  -- each of them is over
  one_over_here : (n : ℕ) (αs : Fresh (suc n)) → ent 𝓤 ⟦ over (suc n) αs ⟧ (⟦ over (suc n) αs ⟧ ∗ A.dead (αs.0 ∷ []))
  one_over_here n αs =
      qed 𝓛 (‵ (fdead (αs.0 ∷ [])) ∷ ‵ (over n αs.1) ∷ []) ∵ use1 𝓛 (‵ (fdead (αs.0 ∷ [])) ⊛ ‵ (fdead (αs.0 ∷ [])))
      (𝓛.lfts.dead_dup (αs.0 ∷ [])) $ split ! $
      move ! (0 ∷ 2 ∷ []) $ fjoin ! $ done !

  one_over_there : (n j : ℕ) (ok : Within n j) (αs : Fresh (suc n)) → ent 𝓤 ⟦ over n αs.1 ⟧
      (⟦ over n αs.1 ⟧ ∗ A.dead (lft_at n j ok (lifetimes n αs.1)))
      → ent 𝓤 ⟦ over (suc n) αs ⟧ (⟦ over (suc n) αs ⟧ ∗ A.dead (lft_at n j ok (lifetimes n αs.1)))
  one_over_there n j ok αs h =
      qed 𝓛 (‵ (fdead (αs.0 ∷ [])) ∷ ‵ (over n αs.1) ∷ []) ∵ move ! (1 ∷ []) $
      use1 𝓛 (‵ (over n αs.1) ⊛ ‵ (fdead (lft_at n j ok (lifetimes n αs.1)))) h $ split ! $
      move ! (2 ∷ 0 ∷ []) $ fjoin ! $ done !

  one_over : (n j : ℕ) (ok : Within n j) (αs : Fresh n) → ent 𝓤 ⟦ over n αs ⟧ (⟦ over n αs ⟧ ∗ A.dead (lft_at n j ok (lifetimes n αs)))
  one_over zero j ok αs = absurd ok
  one_over (suc n) zero ok αs = one_over_here n αs
  one_over (suc n) (suc j) ok αs = one_over_there n j ok αs (one_over n j ok αs.1)

  -- ---- what is passed is lent, and taken back
  -- then so is any share of values side by side
  lends_each : (R : RattleType) → Lends 𝓛 R → (t : Share) (xs : List R.Denot) (b o : ℕ) →
      Lent 𝓛 (parts (mem R) (shares R) t xs b o) (elements_shared R xs b o)
  lends_each R l t [] b o = Lent-nothing 𝓛
  lends_each R l t (x ∷ xs) b o =
      Lent-both 𝓛 (part_at R t x b o) (parts (mem R) (shares R) t xs b (o + (mem R).size)) (shared_of R x b o)
      (elements_shared R xs b (o + (mem R).size)) (l t x b o) (lends_each R l t xs b (o + (mem R).size))

  module _ {n : ℕ} where
    module _ (κs : Lfts n) where
      abbrev own1 : (k : Kind n) → Given1 k → Name1 k → Fml
      own1 k x γ = ((slot k).row κs).own_val (denot1 κs k x γ) (words1 k x)

      abbrev own_all : (ks : List (Kind n)) → Givens ks → Names ks → Fml
      own_all ks xs γs = owns (types_at (slots ks) κs) (denots κs ks xs γs) (wordss κs ks xs)

      lends1 : (k : Kind n) → Made1 𝓛 k → (x : Given1 k) → Fits1 k x → ent 𝓤 ⟦ before1 k x ⟧
          (H.⇛ (ex 𝓤 (λ (γ : Name1 k). ⟦ own1 k x γ ⟧ ∗ ⟦ lender1 κs k x γ ⟧)))
      lends1 (shared j ok R) m c g =
          let P = parts (mem R) (shares R) c.0 c.1.held c.1.block c.1.offset in
          let κ = lft_at n j ok κs in
          let hidden = fhide (elements_shared R c.1.held c.1.block c.1.offset κ) in
          let at = shr_slice_at R (denot1 κs (shared j ok R) c tt) (words1 (shared j ok R) c) in
          qed 𝓛 (‵ P ∷ []) ∵ updating ! $
          use1 𝓛 (later (‵ hidden ⊛ ‵ (flent κ P))) (lends_each R m c.0 c.1.held c.1.block c.1.offset κ) $ await ! tt $ split ! $
          at_once ! $ show ! (λ (γ : Unit {0}). ⟦ own1 (shared j ok R) c γ ⟧ ∗ ⟦ lender1 κs (shared j ok R) c γ ⟧) tt $
          pure_i ! at (tt, (tt, tt)) (refl, g) $ fjoin ! $ done !
      lends1 (mutable j ok R) m c g = via 𝓤 ⟦ cells (mem R) c.held c.block c.offset ⟧ (cells_in R c.held c.block c.offset)
          (lends_slice 𝓛 R (named j) (lft_at n j ok κs) c.held c.block c.offset g)
      lends1 (reference j ok R one m) made c g =
          let parts_now = parts (mem R) (shares R) full_share c.held c.block c.offset in
          let array_part : ℕ → Fml = λ k. (arr_parts (shares R) k).part full_share c.held c.block c.offset in
          via 𝓤 ⟦ array_part m ⟧ (subst (λ (k : ℕ). ent 𝓤 ⟦ parts_now ⟧ ⟦ array_part k ⟧) g (parts_in R full_share c.held c.block c.offset))
          (via 𝓤 ⟦ part_at (Array R m) full_share c.held c.block c.offset ⟧
          (Array-whole 𝓛 R full_share m c.held c.block c.offset)
          (lends_ref 𝓛 (Array R m) (named j) (lft_at n j ok κs) c.held c.block c.offset))
      lends1 (value R vals) m x g = qed 𝓛 (‵ ftrue ∷ []) ∵ updating ! $ at_once ! $ show ! (λ (γ : Unit {0}). ⟦ R.own_val x (vals x) ⟧ ∗ ⟦ ftrue ⟧) tt $
          use0 𝓛 (‵ (R.own_val x (vals x))) (m x (vals x) g) $ done !

      lends_step : (k : Kind n) (ks : List (Kind n)) (xs : Givens (k ∷ ks))
          → ent 𝓤 ⟦ before1 k xs.0 ⟧ (H.⇛ (ex 𝓤 (λ (γ : Name1 k). ⟦ own1 k xs.0 γ ⟧ ∗ ⟦ lender1 κs k xs.0 γ ⟧)))
          → ent 𝓤 ⟦ before ks xs.1 ⟧ (H.⇛ (ex 𝓤 (λ (γs : Names ks). ⟦ own_all ks xs.1 γs ⟧ ∗ ⟦ lenders κs ks xs.1 γs ⟧)))
          → ent 𝓤 ⟦ before (k ∷ ks) xs ⟧ (H.⇛ (ex 𝓤 (λ (γs : Names (k ∷ ks)). ⟦ own_all (k ∷ ks) xs γs ⟧ ∗ ⟦ lenders κs (k ∷ ks) xs γs ⟧)))
      lends_step k ks xs one rest =
          qed 𝓛 (‵ (before1 k xs.0) ∷ ‵ (before ks xs.1) ∷ []) ∵ updating ! $
          use1 𝓛 (later (some (λ (γ : Name1 k). ‵ (own1 k xs.0 γ) ⊛ ‵ (lender1 κs k xs.0 γ)))) one $ await ! tt $
          pick ! (λ γ. split ! $ move ! (2 ∷ []) $
          use1 𝓛 (later (some (λ (γs : Names ks). ‵ (own_all ks xs.1 γs) ⊛ ‵ (lenders κs ks xs.1 γs)))) rest $ await ! tt $
          pick ! (λ γs. split ! $ at_once ! $
          -- [the rest is owned; its lender's part; the first is owned; its lender's part]
          show ! (λ (γs' : Names (k ∷ ks)). ⟦ own_all (k ∷ ks) xs γs' ⟧ ∗ ⟦ lenders κs (k ∷ ks) xs γs' ⟧) (γ, γs) $
          move ! (3 ∷ 1 ∷ []) $ fjoin ! $ move ! (2 ∷ 1 ∷ []) $ fjoin ! $ done !))

      pub lends_all : (ks : List (Kind n)) → Made 𝓛 ks → (xs : Givens ks) → Fits ks xs →
          ent 𝓤 ⟦ before ks xs ⟧ (H.⇛ (ex 𝓤 (λ (γs : Names ks). ⟦ own_all ks xs γs ⟧ ∗ ⟦ lenders κs ks xs γs ⟧)))
      lends_all [] m xs g = qed 𝓛 (‵ ftrue ∷ []) ∵ updating ! $ at_once ! $ show ! (λ (γs : Unit {0}). ⟦ ftrue ⟧ ∗ ⟦ ftrue ⟧) tt $
          use0 𝓛 (‵ ftrue) (id⊢ 𝓤 (emp 𝓤)) $ done !
      lends_all (k ∷ ks) m xs g = lends_step k ks xs (lends1 k m.0 xs.0 g.0) (lends_all ks m.1 xs.1 g.1)

  module _ (n : ℕ) (αs : Fresh n) where
    abbrev κs : Lfts n
    κs = lifetimes n αs

    abbrev O : Fml
    O = over n αs

    -- what is said of the last values
    abbrev last1 : (k : Kind n) (x : Given1 k) (γ : Name1 k) → Last (((slot k).row κs).exit yes) (denot1 κs k x γ) → Fml
    last1 k x γ l = left (((slot k).row κs).exit yes) (denot1 κs k x γ) l

    abbrev lasts : (ks : List (Kind n)) (xs : Givens ks) (γs : Names ks) → Fins κs (slots ks) (all yes (slots ks)) (denots κs ks xs γs) → Fml
    lasts ks xs γs ls = lasts_of κs (slots ks) (all yes (slots ks)) (denots κs ks xs γs) ls

    -- what is there again, and how many
    abbrev Went1 : (k : Kind n) (x : Given1 k) → Left1 k → SProp 𝓤
    Went1 k x l = ⟦ O ⟧ ∗ ⟦ after1 k x l ⟧ ∗ fact 𝓤 (AsMany1 k x l)

    backs1 : (k : Kind n) (x : Given1 k) (γ : Name1 k) (l : Last (((slot k).row κs).exit yes) (denot1 κs k x γ))
        → ent 𝓤 (⟦ O ⟧ ∗ ⟦ lender1 κs k x γ ⟧ ∗ ⟦ last1 k x γ l ⟧) (H.⇛ (Went1 k x (left_of1 κs k x γ l)))
    backs1 (shared j ok R) c γ l =
        let κ = lft_at n j ok κs in
        let P = parts (mem R) (shares R) c.0 c.1.held c.1.block c.1.offset in
        qed 𝓛 (‵ O ∷ ‵ (flent κ P) ∷ ‵ ftrue ∷ []) ∵ updating ! $ use1 𝓛 (‵ O ⊛ ‵ (fdead κ)) (one_over n j ok αs) $ split ! $ move ! (1 ∷ 2 ∷ []) $
        lent_back ! tt $ at_once ! $ move ! (1 ∷ 0 ∷ []) $ frame ! $ frame ! $
        drop ! $ by ! (fact_i 𝓤 (Unit {0}) (emp 𝓤) tt)
    backs1 (mutable j ok R) c γ l =
        let κ = lft_at n j ok κs in
        let len = length c.held in
        qed 𝓛 (‵ O ∷ ‵ (flent κ (Held R len c.block c.offset γ)) ∷ ‵ (last1 (mutable j ok R) c γ l) ∷ []) ∵ updating ! $
        move ! (2 ∷ []) $ fsplit ! $ move ! (1 ∷ []) $ drop ! $ move ! (1 ∷ 2 ∷ 0 ∷ []) $
        use1 𝓛 (‵ O ⊛ ‵ (fdead κ)) (one_over n j ok αs) $ split ! $ move ! (3 ∷ []) $ fsplit ! $ move ! (3 ∷ 4 ∷ 0 ∷ []) $
        use3 𝓛 (later (‵ ((Arr (mem R) len).own_at l c.block c.offset))) (slice_back 𝓛 R κ γ l len c.block c.offset) $ await ! tt $
        fsplit ! $ at_once ! $
        feq_l ! (λ e. use1 𝓛 (‵ (parts (mem R) (shares R) full_share l c.block c.offset)) (cells_out R l c.block c.offset) $
        move ! (2 ∷ 0 ∷ []) $ frame ! $ frame ! $ drop ! $ by ! (fact_i 𝓤 (length l ≡ len) (emp 𝓤) e))
    backs1 (reference j ok R one m) c γ l =
        let κ = lft_at n j ok κs in
        let b = c.block in
        let o = c.offset in
        qed 𝓛 (‵ O ∷ ‵ (flent κ (Body (mem (Array R m)) b o γ)) ∷ ‵ (last1 (reference j ok R one m) c γ l) ∷ []) ∵ updating ! $
        move ! (2 ∷ []) $ fsplit ! $ move ! (1 ∷ []) $ drop ! $ move ! (1 ∷ 2 ∷ 0 ∷ []) $
        use1 𝓛 (‵ O ⊛ ‵ (fdead κ)) (one_over n j ok αs) $ split ! $ move ! (1 ∷ 2 ∷ 3 ∷ []) $
        use3 𝓛 (later (‵ (part_at (Array R m) full_share l b o))) (ref_back 𝓛 (Array R m) κ γ l b o) $ await ! tt $
        use1 𝓛 (‵ ((arr_parts (shares R) m).part full_share l b o)) (Array-apart 𝓛 R full_share one m l b o) $ fsplit ! $ at_once ! $
        feq_l ! (λ e. move ! (1 ∷ 0 ∷ []) $ frame ! $ frame ! $ by ! (fact_i 𝓤 (length l ≡ m) (emp 𝓤) e))
    backs1 (value R vals) x γ l =
        qed 𝓛 (‵ O ∷ ‵ ftrue ∷ ‵ (last1 (value R vals) x γ l) ∷ []) ∵ updating ! $ at_once ! $ frame ! $ frame ! $ drop ! $
        by ! (fact_i 𝓤 (Unit {0}) (emp 𝓤) tt)

    abbrev Went : (ks : List (Kind n)) (xs : Givens ks) → Lefts ks → SProp 𝓤
    Went ks xs ls = ⟦ O ⟧ ∗ ⟦ after ks xs ls ⟧ ∗ fact 𝓤 (AsMany ks xs ls)

    backs_step : (k : Kind n) (ks : List (Kind n)) (xs : Givens (k ∷ ks)) (γs : Names (k ∷ ks))
        (ls : Fins κs (slots (k ∷ ks)) (all yes (slots (k ∷ ks))) (denots κs (k ∷ ks) xs γs))
        → ent 𝓤 (⟦ O ⟧ ∗ ⟦ lender1 κs k xs.0 γs.0 ⟧ ∗ ⟦ last1 k xs.0 γs.0 ls.0 ⟧)
        (H.⇛ (Went1 k xs.0 (left_of1 κs k xs.0 γs.0 ls.0)))
        → ent 𝓤 (⟦ O ⟧ ∗ ⟦ lenders κs ks xs.1 γs.1 ⟧ ∗ ⟦ lasts ks xs.1 γs.1 ls.1 ⟧)
        (H.⇛ (Went ks xs.1 (lefts_of κs ks xs.1 γs.1 ls.1)))
        → ent 𝓤 (⟦ O ⟧ ∗ ⟦ lenders κs (k ∷ ks) xs γs ⟧ ∗ ⟦ lasts (k ∷ ks) xs γs ls ⟧) (H.⇛ (Went (k ∷ ks) xs (lefts_of κs (k ∷ ks) xs γs ls)))
    backs_step k ks xs γs ls one rest =
        let l = left_of1 κs k xs.0 γs.0 ls.0 in
        let m = lefts_of κs ks xs.1 γs.1 ls.1 in
        qed 𝓛 (‵ O ∷ ‵ (lenders κs (k ∷ ks) xs γs) ∷ ‵ (lasts (k ∷ ks) xs γs ls) ∷ []) ∵ updating ! $ move ! (1 ∷ []) $ fsplit ! $ move ! (3 ∷ []) $
        fsplit ! $
        -- [the last of the first; the others'; the lender's part of the first; the others'; over]
        move ! (4 ∷ 2 ∷ 0 ∷ []) $
        use3 𝓛 (later (‵ O ⊛ (‵ (after1 k xs.0 l) ⊛ raw (fact 𝓤 (AsMany1 k xs.0 l))))) one $ await ! tt $ split ! $ move ! (1 ∷ []) $ split ! $
        -- [the first's cells; the first's count; over; the others' last; the others' lender's part]
        move ! (2 ∷ 4 ∷ 3 ∷ []) $
        use3 𝓛 (later (‵ O ⊛ (‵ (after ks xs.1 m) ⊛ raw (fact 𝓤 (AsMany ks xs.1 m))))) rest $ await ! tt $ split ! $ move ! (1 ∷ []) $ split ! $
        -- [the others' cells; the others' counts; over; the first's cells; the first's count]
        move ! (1 ∷ []) $ heard ! (AsMany ks xs.1 m) (λ f. move ! (3 ∷ []) $ heard ! (AsMany1 k xs.0 l) (λ e. at_once ! $
        move ! (2 ∷ 0 ∷ []) $ fjoin ! $ move ! (1 ∷ 0 ∷ []) $ frame ! $ frame ! $ by ! (fact_i 𝓤 (AsMany (k ∷ ks) xs (l, m)) (emp 𝓤) (e, f))))

    pub backs_all : (ks : List (Kind n)) (xs : Givens ks) (γs : Names ks) (ls : Fins κs (slots ks) (all yes (slots ks)) (denots κs ks xs γs))
        → ent 𝓤 (⟦ O ⟧ ∗ ⟦ lenders κs ks xs γs ⟧ ∗ ⟦ lasts ks xs γs ls ⟧) (H.⇛ (Went ks xs (lefts_of κs ks xs γs ls)))
    backs_all [] xs γs ls = qed 𝓛 (‵ O ∷ ‵ ftrue ∷ ‵ ftrue ∷ []) ∵ updating ! $ at_once ! $ frame ! $ frame ! $ drop ! $
        by ! (fact_i 𝓤 (Unit {0}) (emp 𝓤) tt)
    backs_all (k ∷ ks) xs γs ls = backs_step k ks xs γs ls (backs1 k xs.0 γs.0 ls.0) (backs_all ks xs.1 γs.1 ls.1)
