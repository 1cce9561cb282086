-- What a memory's cells hold is what the machine loads from them, and each is a value of its type. Their owner may store other
-- values of the type there, and may make new cells: so memories with such cells exist.
use Prim.Native.Nat.{ℕ, ◌+◌}
use native.Mathlib.Omega.{arith}
use mathlib.Core.Path.{◌≡◌, refl, sym, ◌∙◌, subst}
use mathlib.Core.List.{List, [], ◌∷◌, map}
use mathlib.Core.Bool.{Bool, true, false, ◌&&◌}
use mathlib.Core.Option.{some as just}
use mathlib.Core.Logic.{∥∥₁_prop, ∥∥₁_elim, ∥∥₁_map}
use seplogic.Ra.Ura.{Ura}
use base.Fraction.{full_share}
use seplogic.Bi.Sat
use lib.Dec.{T, eqb_refl}
use lib.ListN.{length, length-map}
use mir.Syntax.{Width, Ty, ty_int, ty_array}
use mir.Val.{Val, vint, vstruct, of_list, has_ty, all_n, bytes, WT, WTs}
use base.Logic.{Sat_exists, SProp, ent, sep, ex, guard, upd, via, comm∗, assoc∗, assoc', mono_l, mono_r, fst∗, snd∗, ex_i, ex∗, guard_e, guard_i}
use base.Logic.{upd_mono, upd_frame}
use base.Fml.{Share}
use prog.Memory.{Memory, load_m, store_m, alloc_m, size}
use prog.Model.{Model, elems}
use prog.Routine.{Routine, ends-one}
use prog.Wp.{Heap}
use contract.Monad.{fact_i}
use contract.Adequate.{Satisfies, sat_weaken, sat_upd, sat_fact}
use borrow.Fn.World.{World}
use Rattle.owner.specs.Machine.{Ran, Loads, Stores, Writes, nothing, store, alloc, AllOf, AllBelow}
use Rattle.owner.specs.Cells.{Cells, refilled}
use Rattle.owner.specs.Holds.{◌⊨◌, Laid}

-- a routine has one end from one memory
pub one_end : (f : Routine) (vs : List Val) (σ : Memory) (v u : Val) (ρ π : Memory) → Ran f vs σ v ρ → Ran f vs σ u π →
    ◌≡◌ {A = Val × Memory} (v, ρ) (u, π)
one_end f vs σ v u ρ π = ends-one f vs σ (v, ρ) (u, π)

pub all_numbers : (n : Width) (xs : List ℕ) → AllBelow n xs → AllOf (ty_int n) (map (vint n) xs)
all_numbers n [] a = tt
all_numbers n (x ∷ xs) a = ((eqb_refl (bytes n), record { fits = a.0 }), all_numbers n xs a.1)

-- an array of values of a type is one of its own
both : (a b : Bool) → T a → T b → T (a && b)
both true b p q = q
both false b p q = absurd p

all_typed : (τ : Ty) (us : List Val) → AllOf τ us → T (all_n (has_ty τ) (length us) (of_list us))
all_typed τ [] a = tt
all_typed τ (u ∷ us) a = both (has_ty τ u) (all_n (has_ty τ) (length us) (of_list us)) a.0.0 (all_typed τ us a.1)

all_well : (τ : Ty) (us : List Val) → AllOf τ us → WTs (of_list us)
all_well τ [] a = tt
all_well τ (u ∷ us) a = (a.0.1, all_well τ us a.1)

module _ (w : World) where
  abbrev 𝓤 : Ura w.M
  𝓤 = w.𝓤

  abbrev H : Heap 𝓤
  H = w.𝓛.H

  abbrev 𝓜 : Model 𝓤 H
  𝓜 = w.𝓜

  abbrev ◌∗◌ : SProp 𝓤 → SProp 𝓤 → SProp 𝓤
  P ∗ Q = sep 𝓤 P Q

  abbrev ◌⊫◌ : Memory → SProp 𝓤 → Type 1
  σ ⊫ P = ◌⊨◌ w σ P

  infixr 35 ◌∗◌
  infix 26 ◌⊫◌
  second_first : (P Q F : SProp 𝓤) → ent 𝓤 (P ∗ Q ∗ F) (Q ∗ P ∗ F)
  second_first P Q F = via 𝓤 ((P ∗ Q) ∗ F) (assoc' 𝓤 P Q F) (via 𝓤 ((Q ∗ P) ∗ F) (mono_l 𝓤 F (comm∗ 𝓤 P Q)) (assoc∗ 𝓤 Q P F))

  -- a fact that a place gives, of whatever memory has it
  told : (σ : Memory) (P : SProp 𝓤) (φ : Type 0) (F : SProp 𝓤) → ent 𝓤 (𝓜.mem σ ∗ P) (guard 𝓤 φ (𝓜.mem σ ∗ P)) → σ ⊫ P ∗ F → ∥ φ ∥₁
  told σ P φ F h s = sat_fact 𝓤 H 𝓜 σ (P ∗ F) φ
      (via 𝓤 ((𝓜.mem σ ∗ P) ∗ F) (assoc' 𝓤 (𝓜.mem σ) P F)
      (via 𝓤 (𝓜.mem σ ∗ P) (fst∗ 𝓤 (𝓜.mem σ ∗ P) F)
      (via 𝓤 (guard 𝓤 φ (𝓜.mem σ ∗ P)) h (guard_e 𝓤 φ (𝓜.mem σ ∗ P) (λ e. fact_i 𝓤 φ (𝓜.mem σ ∗ P) e))))) s

  typed_here : (σ : Memory) (q : Share) (τ : Ty) (b o : ℕ) (v : Val) →
      ent 𝓤 (𝓜.mem σ ∗ H.at q τ b o v) (guard 𝓤 (T (has_ty τ v) × WT v) (𝓜.mem σ ∗ H.at q τ b o v))
  typed_here σ q τ b o v =
      let X = H.at q τ b o v in
      let φ = T (has_ty τ v) × WT v in
      via 𝓤 (𝓜.mem σ ∗ guard 𝓤 φ X) (mono_r 𝓤 (𝓜.mem σ) (𝓜.at_wt q τ b o v))
      (via 𝓤 (guard 𝓤 φ X ∗ 𝓜.mem σ) (comm∗ 𝓤 (𝓜.mem σ) (guard 𝓤 φ X))
      (ex∗ 𝓤 (λ (_ : φ). X) (𝓜.mem σ) (λ t. via 𝓤 (𝓜.mem σ ∗ X) (comm∗ 𝓤 X (𝓜.mem σ)) (guard_i 𝓤 φ (𝓜.mem σ ∗ X) t))))

  -- ---- what cells hold is what loads give, and is well typed
  module _ (σ : Memory) (q : Share) (τ : Ty) (b : ℕ) (F : SProp 𝓤) where
    first : (o : ℕ) (u : Val) (us : List Val) → σ ⊫ elems 𝓤 H q τ b o (u ∷ us) ∗ F → σ ⊫ H.at q τ b o u ∗ elems 𝓤 H q τ b (o + size τ) us ∗ F
    first o u us = sat_weaken 𝓤 H 𝓜 σ (assoc∗ 𝓤 (H.at q τ b o u) (elems 𝓤 H q τ b (o + size τ) us) F)

    rest : (o : ℕ) (u : Val) (us : List Val) → σ ⊫ elems 𝓤 H q τ b o (u ∷ us) ∗ F → σ ⊫ elems 𝓤 H q τ b (o + size τ) us ∗ F
    rest o u us = sat_weaken 𝓤 H 𝓜 σ (mono_l 𝓤 F (snd∗ 𝓤 (H.at q τ b o u) (elems 𝓤 H q τ b (o + size τ) us)))

    pub loads : (o : ℕ) (us : List Val) → σ ⊫ elems 𝓤 H q τ b o us ∗ F → ∥ Loads σ τ b o us ∥₁
    loads o [] s = ∣ tt ∣₁
    loads o (u ∷ us) s =
        ∥∥₁_elim (told σ (H.at q τ b o u) (load_m σ τ b o ≡ just u) (elems 𝓤 H q τ b (o + size τ) us ∗ F) (𝓜.at_load σ q τ b o u) (first o u us s))
        ∥∥₁_prop (λ e.
        ∥∥₁_map (loads (o + size τ) us (rest o u us s)) (λ l. (e, l)))

    pub well_typed : (o : ℕ) (us : List Val) → σ ⊫ elems 𝓤 H q τ b o us ∗ F → ∥ AllOf τ us ∥₁
    well_typed o [] s = ∣ tt ∣₁
    well_typed o (u ∷ us) s =
        ∥∥₁_elim (told σ (H.at q τ b o u) (T (has_ty τ u) × WT u) (elems 𝓤 H q τ b (o + size τ) us ∗ F) (typed_here σ q τ b o u) (first o u us s))
        ∥∥₁_prop (λ e.
        ∥∥₁_map (well_typed (o + size τ) us (rest o u us s)) (λ l. (e, l)))

  -- ---- a store into room for a value of the type
  module _ (σ : Memory) (P : SProp 𝓤) (τ : Ty) (b o : ℕ) (v : Val) where
    abbrev there : SProp 𝓤
    there = H.at full_share τ b o v

    abbrev Stored : Memory → Type 0
    Stored ρ = store_m σ τ b o v ≡ just ρ

    store_room : T (has_ty τ v) × WT v → σ ⊫ H.room τ b o ∗ P → ∥ ((ρ : Memory) × Stored ρ × (ρ ⊫ there ∗ P)) ∥₁
    unfolding Satisfies
    store_room ok s =
        let after : Memory → SProp 𝓤 = λ ρ. upd 𝓤 (sep 𝓤 (𝓜.mem ρ) (there ∗ P)) in
        ∥∥₁_elim (Sat_exists 𝓤 (λ (ρ : Memory). guard 𝓤 (Stored ρ) (after ρ)) (Sat.mono 𝓤.op
        (via 𝓤 ((𝓜.mem σ ∗ H.room τ b o) ∗ P) (assoc' 𝓤 (𝓜.mem σ) (H.room τ b o) P)
        (via 𝓤 (ex 𝓤 (λ (ρ : Memory). guard 𝓤 (Stored ρ) (upd 𝓤 (sep 𝓤 (𝓜.mem ρ) there))) ∗ P) (mono_l 𝓤 P (𝓜.room_store σ τ b o v ok.0 ok.1))
        (ex∗ 𝓤 (λ (ρ : Memory). guard 𝓤 (Stored ρ) (upd 𝓤 (sep 𝓤 (𝓜.mem ρ) there))) P (λ ρ.
        ex∗ 𝓤 (λ (_ : Stored ρ). upd 𝓤 (sep 𝓤 (𝓜.mem ρ) there)) P (λ e.
        via 𝓤 (upd 𝓤 (sep 𝓤 (sep 𝓤 (𝓜.mem ρ) there) P)) (upd_frame 𝓤 (sep 𝓤 (𝓜.mem ρ) there) P)
        (via 𝓤 (after ρ) (upd_mono 𝓤 (assoc∗ 𝓤 (𝓜.mem ρ) there P))
        (via 𝓤 (guard 𝓤 (Stored ρ) (after ρ)) (guard_i 𝓤 (Stored ρ) (after ρ) e) (ex_i 𝓤 (λ (π : Memory). guard 𝓤 (Stored π) (after π)) ρ)))))))) s))
        ∥∥₁_prop (λ t.
        ∥∥₁_map (Sat_exists 𝓤 (λ (_ : Stored t.0). after t.0) t.1) (λ u.
        (t.0, u.0, Sat.bupd 𝓤 (sep 𝓤 (𝓜.mem t.0) (there ∗ P)) u.1)))

  -- ---- whoever has the cells whole may store other values there
  pub stores_back : (τ : Ty) (b o : ℕ) (us vs : List Val) → length vs ≡ length us → AllOf τ vs →
      (σ : Memory) (F : SProp 𝓤) → σ ⊫ elems 𝓤 H full_share τ b o us ∗ F →
      ∥ ((ρ : Memory) × Stores σ τ b o vs ρ × (ρ ⊫ elems 𝓤 H full_share τ b o vs ∗ F)) ∥₁
  stores_back τ b o [] [] many ok σ F s = ∣ (σ, refl, s) ∣₁
  stores_back τ b o [] (v ∷ vs) many ok σ F s = absurd (omega (arith, many))
  stores_back τ b o (u ∷ us) [] many ok σ F s = absurd (omega (arith, many))
  stores_back τ b o (u ∷ us) (v ∷ vs) many ok σ F s =
      let here = H.at full_share τ b o v in
      let old = elems 𝓤 H full_share τ b (o + size τ) us in
      let new = elems 𝓤 H full_share τ b (o + size τ) vs in
      ∥∥₁_elim (store_room σ (old ∗ F) τ b o v ok.0 (sat_weaken 𝓤 H 𝓜 σ (mono_l 𝓤 (old ∗ F) (𝓜.at_room τ b o u))
      (first σ full_share τ b F o u us s))) ∥∥₁_prop (λ t.
      ∥∥₁_map (stores_back τ b (o + size τ) us vs (omega (arith, many)) ok.1 t.0 (here ∗ F)
      (sat_weaken 𝓤 H 𝓜 t.0 (second_first here old F) t.2)) (λ r.
      (r.0, (t.0, t.1, r.1), sat_weaken 𝓤 H 𝓜 r.0 (via 𝓤 (here ∗ new ∗ F) (second_first new here F) (assoc' 𝓤 here new F)) r.2)))

  -- the same of cells and their elements
  pub refills : {X : Type 0} (τ : Ty) (low : X → Val) (c : Cells X) (xs : List X) → length xs ≡ length c.held → AllOf τ (map low xs) →
      (σ : Memory) (F : SProp 𝓤) → σ ⊫ Laid w τ low full_share c ∗ F →
      ∥ ((ρ : Memory) × Stores σ τ c.block c.offset (map low xs) ρ × (ρ ⊫ Laid w τ low full_share (refilled c xs) ∗ F)) ∥₁
  refills τ low c xs many ok σ F s =
      stores_back τ c.block c.offset (map low c.held) (map low xs) (length-map xs low ∙ many ∙ sym (length-map c.held low)) ok σ F s

  -- ---- a new block with values of a type side by side, beside whatever there was
  module _ (σ : Memory) (P : SProp 𝓤) (τ : Ty) (us : List Val) where
    abbrev array : Ty
    array = ty_array τ (length us)

    abbrev fresh : Memory
    fresh = alloc_m σ array

    made : σ ⊫ P → fresh ⊫ H.room array (length σ) 0 ∗ P
    made = sat_upd 𝓤 H 𝓜 σ fresh P (H.room array (length σ) 0 ∗ P)
        (via 𝓤 (upd 𝓤 (𝓜.mem fresh ∗ H.room array (length σ) 0 ∗ H.dies array (length σ)) ∗ P) (mono_l 𝓤 P (𝓜.alloc σ array))
        (via 𝓤 (upd 𝓤 ((𝓜.mem fresh ∗ H.room array (length σ) 0 ∗ H.dies array (length σ)) ∗ P))
        (upd_frame 𝓤 (𝓜.mem fresh ∗ H.room array (length σ) 0 ∗ H.dies array (length σ)) P)
        (upd_mono 𝓤
        (via 𝓤 ((𝓜.mem fresh ∗ H.room array (length σ) 0) ∗ P)
        (mono_l 𝓤 P (via 𝓤 ((𝓜.mem fresh ∗ H.room array (length σ) 0) ∗ H.dies array (length σ))
        (assoc' 𝓤 (𝓜.mem fresh) (H.room array (length σ) 0) (H.dies array (length σ)))
        (fst∗ 𝓤 (𝓜.mem fresh ∗ H.room array (length σ) 0) (H.dies array (length σ)))))
        (assoc∗ 𝓤 (𝓜.mem fresh) (H.room array (length σ) 0) P)))))

    pub lay : AllOf τ us → σ ⊫ P → ∥ ((ρ : Memory) × Writes σ ρ × (ρ ⊫ elems 𝓤 H full_share τ (length σ) 0 us ∗ P)) ∥₁
    lay ok s = ∥∥₁_map (store_room fresh P array (length σ) 0 (vstruct (of_list us)) (all_typed τ us ok, all_well τ us ok) (made s)) (λ t. (
      t.0,
      alloc array (store array (length σ) 0 (vstruct (of_list us)) t.0 t.1 nothing),
      sat_weaken 𝓤 H 𝓜 t.0 (mono_l 𝓤 P (𝓜.at_elems full_share τ (length us) (length σ) 0 us)) t.2,
    ))

-- writes after writes are writes, and so are stores
pub writes_on : {σ ρ π : Memory} → Writes σ ρ → Writes ρ π → Writes σ π
writes_on nothing ws = ws
writes_on (store τ b o v next e rest) ws = store τ b o v next e (writes_on rest ws)
writes_on (alloc τ rest) ws = alloc τ (writes_on rest ws)

pub stores_write : (τ : Ty) (b o : ℕ) (us : List Val) (σ ρ : Memory) → Stores σ τ b o us ρ → Writes σ ρ
stores_write τ b o [] σ ρ same = subst (Writes σ) same nothing
stores_write τ b o (u ∷ us) σ ρ s = store τ b o u s.0 s.1 (stores_write τ b (o + size τ) us s.0 ρ s.2)
