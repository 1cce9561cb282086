-- Law (g): where a rule tiles, the fields of a reading that was read cover its bits in order, each once.
use Prim.Native.Nat.{ℕ, zero, suc, ◌+◌, ◌-◌, ◌*◌, ◌≤◌}
use mathlib.Core.Path.{◌≡◌, refl, sym, subst}
use mathlib.Core.List.{List, [], ◌∷◌}
use mathlib.Core.Bool.{Bool}
use mathlib.Core.Logic.{inl, inr}
use native.Mathlib.Omega.{arith}
use lib.Dec.{ltb, eqb}
use lib.ListN.{length}
use Rattle.bits.specs.Bits.{bits_at}
use Rattle.rules.specs.declared.Field.{Field}
use Rattle.rules.specs.Rule.{Rule, done, ends, position_then, end_then, bits_then, skip_then, field_then, set_end_then, End, refused, pick, ◌>>=◌, position, end, bits, skip, set_end, field}
use Rattle.rules.specs.Reading.{Input, reading, ended_at, has_room, inside}
use Rattle.rules.specs.Derived.{take, flag, parts, escaped, passive_bits, passive_values, each, label_bytes, label, demand, remaining, count, drc_count, is_full}
use Rattle.rules.specs.Answer.{entry_reading}
use Rattle.laws.specs.Tiles.{Tiles, Tiling, Covers, Covered, lengths, CallCovered}
use Rattle.rules.proofs.Pick.{by_pick}
use Rattle.laws.proofs.Entered.{RefusedOrFrom, entered}

none : {A : Type 0} {f p : ℕ} (z : End) (e : ℕ) → f ≤ p → Covered {A = A} f (ended_at z p e)
unfolding Covers
none {A} {f} z e h = record { up_to = f; covers = refl; reaches = h }

-- The law: from a start `f` that is open at the position `p`.
pub covered : {A : Type 0} (i : Input) (r : Rule A) (f p e n : ℕ) → f ≤ p → Tiles f p r → Covered f (reading i r p e n)
unfolding reading Tiles Covers
covered i (done a) f p e n h t = record { up_to = f; covers = refl; reaches = t }
covered i (ends x) f p e n h t = none x e h
covered i (position_then k) f p e n h t = covered i (k p) f p e n h t
covered i (end_then k) f p e n h t = covered i (k e) f p e n h (t e)
covered i (bits_then w k) f p e n h t =
    by_pick (Covered f) (ltb (e - p) w) _ _ (λ _. none (refused 3) e h)
    (λ _. covered i (k (bits_at i.bytes p w)) f (p + w) e n (omega arith) (t _))
covered i (skip_then w k) f p e n h t =
    by_pick (Covered f) (ltb (e - p) w) _ _ (λ _. none (refused 3) e h) (λ _. covered i k f (p + w) e n (omega arith) t)
covered i (field_then name start v k) f p e n h t =
    let x = covered i k p p e (n + 1) (omega arith) t.1 in
    let q : p ≡ f + (p - start) = omega (arith, t.0) in
    by_pick (Covered f) (ltb n 16384) _ _
    (λ _.
    by_pick (Covered f) (has_room i n) _ _
    (λ _.
    record {
      up_to = x.up_to;
      covers = (t.0, subst (λ (a : ℕ). Covers a (reading i k p e (n + 1)).fields x.up_to) q x.covers);
      reaches = x.reaches;
    })
    (λ _. none (refused 5) e h))
    (λ _. none (refused 4) e h)
covered i (set_end_then x k) f p e n h t =
    by_pick (Covered f) (inside i p x) _ _ (λ _. covered i k f p x n h t) (λ _. none (refused 3) e h)

pub covers_all : {A : Type 0} (i : Input) {r : Rule A} (p e n : ℕ) → Tiling r → Covered p (reading i r p e n)
covers_all i {r} p e n t = covered i r p p e n (omega arith) (t.tiles p)

-- the lengths add up to the bits covered
pub covers_length : (a : ℕ) (fs : List Field) (b : ℕ) → Covers a fs b → a + lengths fs ≡ b
unfolding Covers lengths
covers_length a [] b h = omega arith
covers_length a (f ∷ fs) b h = omega (arith, covers_length (a + f.bit_length) fs b h.1)

-- one rule after another
tiles_bind : {A B : Type 0} (r : Rule A) (g : A → Rule B) (f p : ℕ) → Tiles f p r → ((a : A) (q : ℕ) → Tiles q q (g a)) → Tiles f p (r >>= g)
unfolding Tiles ◌>>=◌
tiles_bind (done a) g f p t h = subst (λ (q : ℕ). Tiles q p (g a)) (sym t) (h a p)
tiles_bind (ends x) g f p t h = tt
tiles_bind (position_then k) g f p t h = tiles_bind (k p) g f p t h
tiles_bind (end_then k) g f p t h = λ e. tiles_bind (k e) g f p (t e) h
tiles_bind (bits_then w k) g f p t h = λ v. tiles_bind (k v) g f (p + w) (t v) h
tiles_bind (skip_then w k) g f p t h = tiles_bind k g f (p + w) t h
tiles_bind (field_then name start v k) g f p t h = (t.0, tiles_bind k g p p t.1 h)
tiles_bind (set_end_then x k) g f p t h = tiles_bind k g f p t h

pub tiling_bind : {A B : Type 0} {r : Rule A} {g : A → Rule B} → Tiling r → ((a : A) → Tiling (g a)) → Tiling (r >>= g)
tiling_bind {A} {B} {r} {g} x y = record { tiles = λ p. tiles_bind r g p p (x.tiles p) (λ a q. (y a).tiles q) }

pub tiling_done : {A : Type 0} {a : A} → Tiling (done a)
unfolding Tiles
tiling_done = record { tiles = λ p. refl }

pub tiling_ends : {A : Type 0} {x : End} → Tiling {A = A} (ends x)
unfolding Tiles
tiling_ends = record { tiles = λ p. tt }

pub tiling_pick : {A : Type 0} (b : Bool) (x y : Rule A) → Tiling x → Tiling y → Tiling (pick b x y)
tiling_pick b x y g h = by_pick Tiling b x y (λ _. g) (λ _. h)

pub tiling_set_end : (x : ℕ) → Tiling (set_end x)
unfolding Tiles set_end
tiling_set_end x = record { tiles = λ p. refl }

-- the kinds of fields
pub tiling_take : (name w : ℕ) → Tiling (take name w)
unfolding Tiles take position bits field ◌>>=◌
tiling_take name w = record { tiles = λ p v. (refl, refl) }

pub tiling_flag : (name : ℕ) → Tiling (flag name)
unfolding Tiles flag position bits field ◌>>=◌
tiling_flag name = record { tiles = λ p v. (refl, refl) }

pub tiling_passive_bits : (name w : ℕ) → Tiling (passive_bits name w)
unfolding Tiles passive_bits position skip field ◌>>=◌
tiling_passive_bits name w = tiling_pick (eqb w 0) _ _ (record { tiles = λ p. refl }) (record { tiles = λ p. (refl, refl) })

-- the bits of an escaped number and of a label leave their start open
open_pick : {A : Type 0} (b : Bool) (r r' : Rule ℕ) (f p : ℕ) (g : ℕ → Rule A) → Tiles f p (r >>= g) → Tiles f p (r' >>= g) → Tiles f p (pick b r r' >>= g)
open_pick b r r' f p g s t = by_pick (λ r. Tiles f p (r >>= g)) b r r' (λ _. s) (λ _. t)

open_parts : {A : Type 0} (value : ℕ) (ws : List ℕ) (f p : ℕ) (g : ℕ → Rule A) → ((v q : ℕ) → Tiles f q (g v)) → Tiles f p (parts value ws >>= g)
unfolding Tiles parts bits ◌>>=◌
open_parts value [] f p g h = h value p
open_parts value (w ∷ ws) f p g h = λ v. open_pick (is_full v w) _ _ f (p + w) g (open_parts (value + v) ws f (p + w) g h) (h (value + v) (p + w))

pub tiling_escaped : (name : ℕ) (widths : List ℕ) → Tiling (escaped name widths)
unfolding Tiles escaped position field ◌>>=◌
tiling_escaped name widths = record { tiles = λ p. open_parts 0 widths p p _ (λ v q. (refl, refl)) }

open_bytes : {A : Type 0} (k n f p : ℕ) (g : ℕ → Rule A) → ((v q : ℕ) → Tiles f q (g v)) → Tiles f p (label_bytes k n >>= g)
unfolding Tiles label_bytes bits ◌>>=◌
open_bytes zero n f p g h = tt
open_bytes (suc k) n f p g h = λ v. open_pick (eqb v 0) _ _ f (p + 8) g (h (n + 1) (p + 8)) (open_bytes k (n + 1) f (p + 8) g h)

pub tiling_label : (name : ℕ) → Tiling (label name)
unfolding Tiles label position field ◌>>=◌
tiling_label name = record { tiles = λ p. open_bytes 4097 0 p p _ (λ v q. (refl, refl)) }

-- questions read no bits
pub tiling_demand : (b : Bool) (x : End) → Tiling (demand b x)
unfolding demand
tiling_demand b x = tiling_pick b _ _ tiling_done tiling_ends

tiling_remaining : Tiling remaining
unfolding Tiles remaining end position ◌>>=◌
tiling_remaining = record { tiles = λ p e. refl }

pub tiling_count : (n least : ℕ) → Tiling (count n least)
unfolding count
tiling_count n least = tiling_bind tiling_remaining (λ left. tiling_bind (tiling_demand _ _) (λ _. tiling_done))

pub tiling_drc_count : (name w least : ℕ) → Tiling (drc_count name w least)
unfolding drc_count
tiling_drc_count name w least = tiling_bind (tiling_take name w) (λ n. tiling_count n least)

pub tiling_passive_values : (name step : ℕ) (ws : List ℕ) → Tiling (passive_values name step ws)
unfolding passive_values
tiling_passive_values name step [] = tiling_done
tiling_passive_values name step (w ∷ ws) = tiling_bind (tiling_take name w) (λ _. tiling_passive_values (name + step) step ws)

pub tiling_each : {A : Type 0} (f : ℕ → A → Rule A) (i : ℕ) (xs : List A) → ((i : ℕ) (x : A) → Tiling (f i x)) → Tiling (each f i xs)
unfolding each
tiling_each f i [] t = tiling_done
tiling_each f i (x ∷ xs) t = tiling_bind (t i x) (λ y. tiling_bind (tiling_each f (i + 1) xs t) (λ ys. tiling_done))

-- a whole call, from its offset on
pub call_covered : {A : Type 0} {r : Rule A} (i : Input) (own offset : ℕ) → Tiling r → CallCovered offset (entry_reading i own offset r)
call_covered {A} {r} i own offset t = by (entered i offset r own)
  where
    by : RefusedOrFrom i offset r (entry_reading i own offset r) → CallCovered offset (entry_reading i own offset r)
    by (inl x) = rw x.refused (inl (record { none = refl; how = x.how; ended_so = refl }))
    by (inr e) = rw e (inr (covers_all i offset (8 * length i.bytes) 0 t))

pub ruleset tiling =
    (tiling_bind, tiling_done, tiling_ends, tiling_pick, tiling_set_end, tiling_take, tiling_flag, tiling_passive_bits, tiling_passive_values, tiling_each, tiling_escaped, tiling_label, tiling_demand, tiling_count, tiling_drc_count)
