-- Law (a): a rule and then another is the one reading after the other. Law (b): an ended reading stays as it is. And how
-- rules one after another are put together.
use Prim.Native.Nat.{ℕ, suc, ◌+◌, ◌-◌}
use mathlib.Core.Path.{◌≡◌, refl, ap, ◌∙◌, fun_ext}
use mathlib.Core.List.{List, ◌∷◌, ◌++◌}
use mathlib.Core.Bool.{Bool, true, false}
use native.Mathlib.Omega.{arith}
use native.Mathlib.Nat.{add-zero}
use lib.ListN.{length}
use lib.Dec.{ltb}
use Rattle.bits.specs.Bits.{bits_at}
use Rattle.rules.specs.declared.Field.{Field}
use Rattle.rules.specs.Rule.{Rule, done, ends, position_then, end_then, bits_then, skip_then, field_then, set_end_then, End, refused, pick, ◌>>=◌}
use Rattle.rules.specs.Reading.{Reading, Result, read, ended, Input, reading, ended_at, with, field_to, has_room, inside}

-- A reading with more after it: if it was read, the next one goes on from its position and end, with its fields counted;
-- if it ended, that is all.
abbrev pub after : {A B : Type 0} → (A → ℕ → ℕ → ℕ → Reading B) → ℕ → ℕ → ℕ → List Field → Result A → Reading B
after k n p e fs (read a) =
    let o = k a p e (n + length fs) in
    record { result = o.result; position = o.position; end = o.end; fields = fs ++ o.fields }
after k n p e fs (ended x) = record { result = ended x; position = p; end = e; fields = fs }

abbrev pub then : {A B : Type 0} → (A → ℕ → ℕ → ℕ → Reading B) → ℕ → Reading A → Reading B
then k n x = after k n x.position x.end x.fields x.result

module _ {A B : Type 0} (k : A → ℕ → ℕ → ℕ → Reading B) where
  with_after : (n : ℕ) (f : Field) (p e : ℕ) (fs : List Field) (x : Result A) → with f (after k (n + 1) p e fs x) ≡ after k n p e (f ∷ fs) x
  with_after n f p e fs (read a) =
      let q : n + 1 + length fs ≡ n + suc (length fs) = omega arith in
      ap (λ (m : ℕ).
      record { result = (k a p e m).result; position = (k a p e m).position; end = (k a p e m).end; fields = f ∷ (fs ++ (k a p e m).fields) }) q
  with_after n f p e fs (ended x) = refl

  pick_then : (b : Bool) (n : ℕ) (z : End) (p e : ℕ) (x : Reading B) (y : Reading A) → x ≡ then k n y →
      pick b (ended_at z p e) x ≡ then k n (pick b (ended_at z p e) y)
  pick_then true n z p e x y h = refl
  pick_then false n z p e x y h = h

  then_pick : (b : Bool) (n : ℕ) (z : End) (p e : ℕ) (x : Reading B) (y : Reading A) → x ≡ then k n y →
      pick b x (ended_at z p e) ≡ then k n (pick b y (ended_at z p e))
  then_pick true n z p e x y h = h
  then_pick false n z p e x y h = refl

pub bind : {A B : Type 0} (i : Input) (r : Rule A) (f : A → Rule B) (p e n : ℕ) →
    reading i (r >>= f) p e n ≡ then (λ a. reading i (f a)) n (reading i r p e n)
unfolding reading ◌>>=◌
bind i (done a) f p e n = rw add-zero
bind i (ends x) f p e n = refl
bind i (position_then k) f p e n = bind i (k p) f p e n
bind i (end_then k) f p e n = bind i (k e) f p e n
bind i (bits_then w k) f p e n =
    let r = k (bits_at i.bytes p w) in
    pick_then (λ a. reading i (f a)) (ltb (e - p) w) n (refused 3) p e (reading i (r >>= f) (p + w) e n) (reading i r (p + w) e n) (bind i (k (bits_at i.bytes p w)) f (p + w) e n)
bind i (skip_then w k) f p e n =
    pick_then (λ a. reading i (f a)) (ltb (e - p) w) n (refused 3) p e (reading i (k >>= f) (p + w) e n) (reading i k (p + w) e n) (bind i k f (p + w) e n)
bind i (field_then name start v k) f p e n =
    let one = field_to name start v p in
    let x = reading i (k >>= f) p e (n + 1) in
    let y = reading i k p e (n + 1) in
    then_pick (λ a. reading i (f a)) (ltb n 16384) n (refused 4) p e (pick (has_room i n) (with one x) (ended_at (refused 5) p e)) (pick (has_room i n) (with one y) (ended_at (refused 5) p e))
    (then_pick (λ a. reading i (f a)) (has_room i n) n (refused 5) p e (with one x) (with one y)
    (ap (with one) (bind i k f p e (n + 1)) ∙ with_after (λ a. reading i (f a)) n one y.position y.end y.fields y.result))
bind i (set_end_then x k) f p e n =
    then_pick (λ a. reading i (f a)) (inside i p x) n (refused 3) p e (reading i (k >>= f) p x n) (reading i k p x n) (bind i k f p x n)

-- it does not matter how rules one after another are put together
pub assoc : {A B C : Type 0} (r : Rule A) (f : A → Rule B) (g : B → Rule C) → r >>= f >>= g ≡ r >>= (λ a. f a >>= g)
unfolding ◌>>=◌
assoc (done a) f g = refl
assoc (ends x) f g = refl
assoc (position_then k) f g = ap position_then (fun_ext (λ v. assoc (k v) f g))
assoc (end_then k) f g = ap end_then (fun_ext (λ v. assoc (k v) f g))
assoc (bits_then w k) f g = ap (bits_then w) (fun_ext (λ v. assoc (k v) f g))
assoc (skip_then w k) f g = ap (skip_then w) (assoc k f g)
assoc (field_then name start v k) f g = ap (field_then name start v) (assoc k f g)
assoc (set_end_then x k) f g = ap (set_end_then x) (assoc k f g)

-- and a rule whose value is handed on is that rule
pub bind_done : {A : Type 0} (r : Rule A) → r >>= (λ a. done a) ≡ r
unfolding ◌>>=◌
bind_done (done a) = refl
bind_done (ends x) = refl
bind_done (position_then k) = ap position_then (fun_ext (λ v. bind_done (k v)))
bind_done (end_then k) = ap end_then (fun_ext (λ v. bind_done (k v)))
bind_done (bits_then w k) = ap (bits_then w) (fun_ext (λ v. bind_done (k v)))
bind_done (skip_then w k) = ap (skip_then w) (bind_done k)
bind_done (field_then name start v k) = ap (field_then name start v) (bind_done k)
bind_done (set_end_then x k) = ap (set_end_then x) (bind_done k)
