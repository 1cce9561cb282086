-- What holds of the shapes that a scene or an update gives: they have ranks; a scene gives at most 63, and an update as many
-- as it was handed.
use Prim.Native.Nat.{ℕ, suc, ◌+◌, ◌-◌, ◌*◌, ◌^◌, ◌<◌, ◌≤◌}
use mathlib.Core.Path.{◌≡◌, refl, sym, ap}
use mathlib.Core.List.{List, [], ◌∷◌}
use mathlib.Core.Bool.{true, false, ◌&&◌}
use mathlib.Core.Logic.{◌↔◌}
use native.Mathlib.Omega.{arith}
use lib.Dec.{ltb, leb}
use lib.ListN.{length, replicate, length-replicate}
use Rattle.bits.proofs.Laws.{bits_lt}
use Rattle.rules.specs.declared.Field.{Field}
use Rattle.rules.specs.Rule.{Rule, ◌>>=◌, refused, position, bits, field}
use Rattle.rules.specs.Reading.{Reading, Result, read, ended, Input, reading, has_room}
use Rattle.rules.specs.Derived.{take, demand, remaining, count, drc_count, entry, each}
use Rattle.rules.specs.Answer.{outcome_of, entry_then, entry_reading}
use Rattle.rules.proofs.Bind.{after, bind, assoc}
use Rattle.rules.proofs.Pick.{by_pick}
use Rattle.position.specs.declared.PositionSyntax.{PositionSyntax}
use Rattle.position.specs.Shape.{default}
use Rattle.ranks.specs.Rank.{HaveRanks}
use Rattle.validation.specs.Validation.{parents, validate_graph, if_valid, RefusedForParents}
use Rattle.validation.proofs.Refusals.{refused_for_parents, read_has_ranks}
use Rattle.positions.specs.Positions.{position_at, positions}
use Rattle.scene.specs.Scene.{scene_fields, scene_graph, scene_reading}
use Rattle.update.specs.Update.{update_fields, graph_update, shapes_question, update_reading}

-- An entry, then fields, then their validation: the entry and the fields may be put together.
module _ (i : Input) (own offset : ℕ) (r : Rule (List PositionSyntax)) where
  abbrev unvalidated : Rule (List PositionSyntax)
  unvalidated = entry_then (length i.bytes) own offset r

  together : entry_reading i own offset (r >>= if_valid) ≡ reading i (unvalidated >>= if_valid) 0 0 0
  together = ap (λ (q : Rule (List PositionSyntax)). reading i q 0 0 0) (sym (assoc (entry (length i.bytes) own offset) (λ _. r) if_valid))

  entry_ranked : (l : List PositionSyntax) → (entry_reading i own offset (r >>= if_valid)).result ≡ read l → HaveRanks (parents l)
  entry_ranked l h = read_has_ranks i unvalidated 0 0 0 l (rw together at h)

  entry_refused : (next : List PositionSyntax) → (entry_reading i own offset r).result ≡ read next →
      RefusedForParents (outcome_of (entry_reading i own offset (r >>= if_valid)).result) ↔ (¬ HaveRanks (parents next))
  entry_refused next h = rw together (refused_for_parents i unvalidated 0 0 0 next h)

module _ (i : Input) (offset : ℕ) where
  pub scene_ranked : (l : List PositionSyntax) → (scene_reading i offset).result ≡ read l → HaveRanks (parents l)
  unfolding scene_graph
  scene_ranked = entry_ranked i 0 offset scene_fields

  pub scene_refused : (next : List PositionSyntax) → (entry_reading i 0 offset scene_fields).result ≡ read next →
      RefusedForParents (outcome_of (scene_reading i offset).result) ↔ (¬ HaveRanks (parents next))
  unfolding scene_graph
  scene_refused = entry_refused i 0 offset scene_fields

  module _ (count : ℕ) (s : List PositionSyntax) where
    pub update_ranked : (l : List PositionSyntax) → (update_reading i offset count s).result ≡ read l → HaveRanks (parents l)
    unfolding graph_update
    update_ranked = entry_ranked i (shapes_question count s) offset (update_fields s)

    pub update_refused : (next : List PositionSyntax) → (entry_reading i (shapes_question count s) offset (update_fields s)).result ≡ read next →
        RefusedForParents (outcome_of (update_reading i offset count s).result) ↔ (¬ HaveRanks (parents next))
    unfolding graph_update
    update_refused = entry_refused i (shapes_question count s) offset (update_fields s)

-- P of the value, if it was read
abbrev IfRead : {A : Type 0} → (A → Type 0) → Result A → Type 0
IfRead P (read a) = P a
IfRead P (ended x) = Unit {0}

any : {A : Type 0} (x : Result A) → IfRead (λ _. Unit {0}) x
any (read a) = tt
any (ended x) = tt

-- less said of it
if_less : {A : Type 0} (P Q : A → Type 0) (x : Result A) → IfRead P x → ((a : A) → P a → Q a) → IfRead Q x
if_less P Q (read a) h k = k a h
if_less P Q (ended x) h k = tt

-- of a rule and then another: what is known of the first value may be used for the second
if_then : {A B : Type 0} (i : Input) (P : A → Type 0) (Q : B → Type 0) (r : Rule A) (f : A → Rule B) →
    ((p e n : ℕ) → IfRead P (reading i r p e n).result) → ((a : A) → P a → (p e n : ℕ) → IfRead Q (reading i (f a) p e n).result) →
    (p e n : ℕ) → IfRead Q (reading i (r >>= f) p e n).result
if_then {A} {B} i P Q r f g h p e n = rw (bind i r f p e n) (by _ _ _ (reading i r p e n).result (g p e n))
  where
    by : (p e : ℕ) (fs : List Field) (x : Result A) → IfRead P x → IfRead Q (after (λ a. reading i (f a)) n p e fs x).result
    by p e fs (read a) k = h a k p e (n + length fs)
    by p e fs (ended x) k = tt

-- the same where nothing need be known of the first value
if_last : {A B : Type 0} (i : Input) (Q : B → Type 0) (r : Rule A) (f : A → Rule B) → ((a : A) (p e n : ℕ) → IfRead Q (reading i (f a) p e n).result) →
    (p e n : ℕ) → IfRead Q (reading i (r >>= f) p e n).result
if_last i Q r f h = if_then i (λ _. Unit {0}) Q r f (λ p e n. any (reading i r p e n).result) (λ a _. h a)

-- a number that was read by `drc_count` is below what its bits can hold
take_below : (i : Input) (name w p e n : ℕ) → IfRead (λ v. v < 2 ^ w) (reading i (take name w) p e n).result
unfolding take position bits field ◌>>=◌ reading
take_below i name w p e n =
    let P : Reading ℕ → Type 0 = λ x. IfRead (λ v. v < 2 ^ w) x.result in
    by_pick P (ltb (e - p) w) _ _ (λ _. tt)
    (λ _.
    by_pick P (ltb n 16384) _ _
    (λ _. by_pick P (has_room i n) _ _ (λ _. bits_lt i.bytes p w) (λ _. tt))
    (λ _. tt))

drc_count_below : (i : Input) (name w least p e n : ℕ) → IfRead (λ v. v < 2 ^ w) (reading i (drc_count name w least) p e n).result
unfolding drc_count count reading
drc_count_below i name w least =
    if_then i (λ v. v < 2 ^ w) _ (take name w) _ (take_below i name w)
    (λ v h. if_last i _ remaining _ (λ left. if_last i _ (demand (leb v 4096 && leb (v * least) left) (refused 6)) _ (λ _ p e n. h)))

-- a loop over a list gives as many values as it was handed, and an update as many shapes
each_many : {A : Type 0} (i : Input) (f : ℕ → A → Rule A) (k : ℕ) (xs : List A) (p e n : ℕ) →
    IfRead (λ ys. length ys ≡ length xs) (reading i (each f k xs) p e n).result
unfolding each reading
each_many i f k [] = λ p e n. refl
each_many i f k (x ∷ xs) =
    if_last i _ (f k x) _
    (λ y. if_then i (λ ys. length ys ≡ length xs) _ (each f (k + 1) xs) _ (each_many i f (k + 1) xs) (λ ys q p e n. ap suc q))

-- a scene gives at most 63 shapes
abbrev Fits : List PositionSyntax → Type 0
Fits l = length l ≤ 63

few : (n : ℕ) → n < 2 ^ 6 → (l : List PositionSyntax) → length l ≡ length (replicate n default) → Fits l
few n h l q = let long = length-replicate n default in omega arith

module _ (i : Input) (offset : ℕ) where
  at_most_63 : IfRead Fits (scene_reading i offset).result
  unfolding scene_graph scene_fields positions reading
  at_most_63 =
      if_last i _ (entry (length i.bytes) 0 offset) _
      (λ _.
      if_then i Fits _ scene_fields if_valid
      (if_then i (λ n. n < 2 ^ 6) _ (drc_count _ 6 18) _ (drc_count_below i _ 6 18)
      (λ n h p e k. if_less _ Fits (reading i (positions true (replicate n default)) p e k).result (each_many i (position_at true) 0 (replicate n default) p e k) (few n h)))
      (λ l q. if_last i _ (validate_graph l) _ (λ _ p e n. q)))
      0 0 0

  pub scene_many : (l : List PositionSyntax) → (scene_reading i offset).result ≡ read l → length l ≤ 63
  scene_many l h = rw h at at_most_63

module _ (i : Input) (offset count : ℕ) (s : List PositionSyntax) where
  as_many : IfRead (λ l. length l ≡ length s) (update_reading i offset count s).result
  unfolding graph_update update_fields positions reading
  as_many =
      if_last i _ (entry (length i.bytes) (shapes_question count s) offset) _
      (λ _.
      if_then i _ _ (positions false s) if_valid (each_many i (position_at false) 0 s)
      (λ l q. if_last i _ (validate_graph l) _ (λ _ p e n. q)))
      0 0 0

  pub update_many : (l : List PositionSyntax) → (update_reading i offset count s).result ≡ read l → length l ≡ length s
  update_many l h = rw h at as_many
