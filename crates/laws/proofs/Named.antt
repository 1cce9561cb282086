-- What holds of every name and number of a rule holds of the fields and the outcome of its readings; and how it is shown, kind by kind.
use Prim.Native.Nat.{ℕ, zero, suc, ◌+◌, ◌-◌, ◌*◌, ◌^◌, ◌<◌, ◌≤◌}
use mathlib.Core.Path.{◌≡◌, refl, sym, subst}
use mathlib.Core.List.{List, [], ◌∷◌}
use mathlib.Core.Bool.{Bool, true, false}
use native.Mathlib.Omega.{arith}
use borrow.Author.Tests.{leb-true, eqb-true}
use lib.Dec.{ltb, leb, eqb}
use lib.ListN.{length}
use Rattle.bits.specs.Bits.{bits_at}
use Rattle.bits.proofs.Laws.{bits_lt}
use Rattle.rules.specs.declared.FieldValue.{FieldValue}
use Rattle.rules.specs.declared.FieldValue.TheVariants.{Number, Bits, Bytes}
use Rattle.rules.specs.Rule.{Rule, done, ends, position_then, end_then, bits_then, skip_then, field_then, set_end_then, End, pick, ◌>>=◌, position, end, bits, skip, set_end, field}
use Rattle.rules.specs.Reading.{Input, reading, has_room, inside}
use Rattle.rules.specs.Derived.{take, flag, is_full, parts, escaped, passive_bits, passive_values, Arm, ◌⇒◌, among, choose, each, fold, label_bytes, label, demand, remaining, count, drc_count, entry}
use Rattle.rules.specs.Answer.{end_outcome, entry_reading}
use Rattle.laws.specs.Named.{Numbered, Named, Names, Any, OfReadings, AllNamed, Told, most}
use Rattle.rules.proofs.Pick.{by_pick}
use Rattle.rules.proofs.Bind.{bind_done}
use Rattle.rules.proofs.Laws.{both}

-- The law: what holds of the names and numbers of a rule holds of the fields and the outcome of its readings, wherever they begin.
told_by : {A : Type 0} (P E : ℕ → Type 0) (Q : A → Type 0) → OfReadings E → (i : Input) (r : Rule A) (p e n : ℕ) → Named P E Q r →
    Told P E (reading i r p e n)
unfolding reading Named AllNamed
told_by P E Q o i (done a) p e n h = record { fields = tt; outcome = tt }
told_by P E Q o i (ends x) p e n h = record { fields = tt; outcome = h }
told_by P E Q o i (position_then k) p e n h = told_by P E Q o i (k p) p e n (h p)
told_by P E Q o i (end_then k) p e n h = told_by P E Q o i (k e) p e n (h e)
told_by P E Q o i (bits_then w k) p e n h =
    by_pick (Told P E) (ltb (e - p) w) _ _
    (λ _. record { fields = tt; outcome = o.bits })
    (λ _. told_by P E Q o i (k (bits_at i.bytes p w)) (p + w) e n (h _ (bits_lt i.bytes p w)))
told_by P E Q o i (skip_then w k) p e n h =
    by_pick (Told P E) (ltb (e - p) w) _ _ (λ _. record { fields = tt; outcome = o.bits }) (λ _. told_by P E Q o i k (p + w) e n h)
told_by P E Q o i (field_then name start v k) p e n h =
    by_pick (Told P E) (ltb n 16384) _ _
    (λ _. by_pick (Told P E) (has_room i n) _ _
    (λ _. let rest = told_by P E Q o i k p e (n + 1) h.1 in record { fields = (h.0, rest.fields); outcome = rest.outcome })
    (λ _. record { fields = tt; outcome = o.room }))
    (λ _. record { fields = tt; outcome = o.count })
told_by P E Q o i (set_end_then x k) p e n h =
    by_pick (Told P E) (inside i p x) _ _ (λ _. told_by P E Q o i k p x n h) (λ _. record { fields = tt; outcome = o.bits })

pub told : {A : Type 0} {P E : ℕ → Type 0} {Q : A → Type 0} {r : Rule A} → OfReadings E → (i : Input) (p e n : ℕ) → Names P E Q r →
    Told P E (reading i r p e n)
told {r = r} o i p e n h = told_by _ _ _ o i r p e n h.named

-- one rule after another: the next may use what is known of the value
named_bind : {A B : Type 0} (P E : ℕ → Type 0) (Q : A → Type 0) (R : B → Type 0) (r : Rule A) (g : A → Rule B) →
    Named P E Q r → ((a : A) → Q a → Named P E R (g a)) → Named P E R (r >>= g)
unfolding Named ◌>>=◌
named_bind P E Q R (done a) g h k = k a h
named_bind P E Q R (ends x) g h k = h
named_bind P E Q R (position_then f) g h k = λ p. named_bind P E Q R (f p) g (h p) k
named_bind P E Q R (end_then f) g h k = λ e. named_bind P E Q R (f e) g (h e) k
named_bind P E Q R (bits_then w f) g h k = λ v l. named_bind P E Q R (f v) g (h v l) k
named_bind P E Q R (skip_then w f) g h k = named_bind P E Q R f g h k
named_bind P E Q R (field_then name start v f) g h k = (h.0, named_bind P E Q R f g h.1 k)
named_bind P E Q R (set_end_then x f) g h k = named_bind P E Q R f g h k

module _ {P E : ℕ → Type 0} where
  pub names_bind : {A B : Type 0} {Q : A → Type 0} {R : B → Type 0} {r : Rule A} {g : A → Rule B} →
      Names P E Q r → ((a : A) → Q a → Names P E R (g a)) → Names P E R (r >>= g)
  names_bind {r = r} {g = g} h k = record { named = named_bind _ _ _ _ r g h.named (λ a q. (k a q).named) }

  -- where nothing is known of it
  pub names_then : {A B : Type 0} {R : B → Type 0} {r : Rule A} {g : A → Rule B} → Names P E Any r → ((a : A) → Names P E R (g a)) →
      Names P E R (r >>= g)
  names_then h k = names_bind h (λ a _. k a)

  pub names_done : {A : Type 0} {Q : A → Type 0} {a : A} → Q a → Names P E Q (done a)
  unfolding Named
  names_done q = record { named = q }

  pub names_any : {A : Type 0} {a : A} → Names P E Any (done a)
  names_any = names_done tt

  pub names_ends : {A : Type 0} {Q : A → Type 0} {x : End} → Numbered E (end_outcome x) → Names P E Q (ends x)
  unfolding Named
  names_ends h = record { named = h }

  pub names_pick : {A : Type 0} {Q : A → Type 0} (b : Bool) (x y : Rule A) →
      (b ≡ true → Names P E Q x) → (b ≡ false → Names P E Q y) → Names P E Q (pick b x y)
  names_pick {Q = Q} b x y g h = by_pick (Names P E Q) b x y g h

  -- less said of the value
  pub names_weaker : {A : Type 0} {Q R : A → Type 0} {r : Rule A} → Names P E Q r → ((a : A) → Q a → R a) → Names P E R r
  names_weaker {r = r} h k = subst (Names P E _) (bind_done r) (names_bind h (λ a q. names_done (k a q)))

  -- the primitives
  pub names_position : Names P E Any position
  unfolding Named position
  names_position = record { named = λ p. tt }

  pub names_end : Names P E Any end
  unfolding Named end
  names_end = record { named = λ e. tt }

  names_bits : (w : ℕ) → Names P E (λ v. v < 2 ^ w) (bits w)
  unfolding Named bits
  names_bits w = record { named = λ v l. l }

  pub names_skip : (w : ℕ) → Names P E Any (skip w)
  unfolding Named skip
  names_skip w = record { named = tt }

  pub names_set_end : (x : ℕ) → Names P E Any (set_end x)
  unfolding Named set_end
  names_set_end x = record { named = tt }

  names_field : (name start : ℕ) (v : FieldValue) → P name → Names P E Any (field name start v)
  unfolding Named field
  names_field name start v h = record { named = (h, tt) }

  -- the kinds of fields, and what is known of their values
  pub take_value : (name w : ℕ) → P name → Names P E (λ v. v ≤ 2 ^ w - 1) (take name w)
  unfolding Named take position bits field ◌>>=◌
  take_value name w h = record { named = λ p v l. (h, omega arith) }

  pub names_flag : (name : ℕ) → P name → Names P E Any (flag name)
  unfolding Named flag position bits field ◌>>=◌
  names_flag name h = record { named = λ p v l. (h, tt) }

  parts_value : (value : ℕ) (ws : List ℕ) → Names P E (λ v. v ≤ value + most ws) (parts value ws)
  unfolding parts
  parts_value value [] = names_done (omega arith)
  parts_value value (w ∷ ws) =
      names_bind (names_bits w)
      (λ v l.
      names_pick (is_full v w) _ _
      (λ _. names_weaker (parts_value (value + v) ws) (λ u m. omega arith))
      (λ _. names_done (omega arith)))

  pub escaped_value : (name : ℕ) (ws : List ℕ) → P name → Names P E (λ v. v ≤ most ws) (escaped name ws)
  unfolding escaped
  escaped_value name ws h =
      names_then names_position
      (λ start. names_bind (parts_value 0 ws) (λ v l. names_then (names_field name start (Number v) h) (λ _. names_done (omega arith))))

  pub names_passive_bits : (name w : ℕ) → P name → Names P E Any (passive_bits name w)
  unfolding passive_bits
  names_passive_bits name w h =
      names_pick (eqb w 0) _ _ (λ _. names_any) (λ _. names_then names_position (λ start. names_then (names_skip w) (λ _. names_field name start (Bits w) h)))

  names_bytes : (k n : ℕ) → E 17 → Names P E Any (label_bytes k n)
  unfolding label_bytes
  names_bytes zero n long = names_ends long
  names_bytes (suc k) n long = names_bind (names_bits 8) (λ v _. names_pick (eqb v 0) _ _ (λ _. names_any) (λ _. names_bytes k (n + 1) long))

  pub names_label : (name : ℕ) → P name → E 17 → Names P E Any (label name)
  unfolding label
  names_label name h long = names_then names_position (λ start. names_then (names_bytes 4097 0 long) (λ n. names_field name start (Bytes n) h))

  pub names_passive_values : (name step : ℕ) (ws : List ℕ) → ((k : ℕ) → k < length ws → P (name + step * k)) →
      Names P E Any (passive_values name step ws)
  unfolding passive_values
  names_passive_values name step [] h = names_any
  names_passive_values name step (w ∷ ws) h =
      let first : name + step * 0 ≡ name = omega arith in
      let next : (k : ℕ) → name + step + step * k ≡ name + step * suc k = λ k. omega arith in
      names_bind (take_value name w (subst P first (h 0 (omega arith))))
      (λ v _. names_passive_values (name + step) step ws (λ k l. subst P (sym (next k)) (h (suc k) (omega arith))))

  -- a question, what is asked of its number where it is not met, and what is known after it
  pub demand_value : (b : Bool) (x : End) → (b ≡ false → Numbered E (end_outcome x)) → Names P E (λ _. b ≡ true) (demand b x)
  unfolding demand
  demand_value b x n = names_pick b _ _ (λ e. names_done e) (λ e. names_ends (n e))

  pub names_remaining : Names P E Any remaining
  unfolding remaining
  names_remaining = names_then names_end (λ e. names_then names_position (λ p. names_any))

  pub count_value : (n least : ℕ) → E 6 → Names P E (λ v. (v ≡ n) × (v ≤ 4096)) (count n least)
  unfolding count
  count_value n least above =
      names_then names_remaining
      (λ left. names_bind (demand_value _ _ (λ _. above)) (λ _ e. names_done (refl, leb-true n 4096 (both (leb n 4096) e).0)))

  pub drc_count_value : (name w least : ℕ) → P name → E 6 → Names P E (λ v. (v ≤ 2 ^ w - 1) × (v ≤ 4096)) (drc_count name w least)
  unfolding drc_count
  drc_count_value name w least h above =
      names_bind (take_value name w h) (λ n l. names_weaker (count_value n least above) (λ v q. (omega (arith, q.0), q.1)))

  -- the same, of a value of which nothing is asked
  pub names_take : (name w : ℕ) → P name → Names P E Any (take name w)
  names_take name w h = names_weaker (take_value name w h) (λ _ _. tt)

  pub names_escaped : (name : ℕ) (ws : List ℕ) → P name → Names P E Any (escaped name ws)
  names_escaped name ws h = names_weaker (escaped_value name ws h) (λ _ _. tt)

  pub names_demand : (b : Bool) (x : End) → (b ≡ false → Numbered E (end_outcome x)) → Names P E Any (demand b x)
  names_demand b x n = names_weaker (demand_value b x n) (λ _ _. tt)

  pub names_count : (n least : ℕ) → E 6 → Names P E Any (count n least)
  names_count n least above = names_weaker (count_value n least above) (λ _ _. tt)

  -- the arms of a `match`, one by one
  pub names_arm : {A : Type 0} {Q : A → Type 0} (kind : ℕ) (keys : List ℕ) (r : Rule A) (arms : List (Arm A)) (other : Rule A) →
      Names P E Q r → Names P E Q (choose kind arms other) → Names P E Q (choose kind (keys ⇒ r ∷ arms) other)
  unfolding choose
  names_arm kind keys r arms other h k = names_pick (among kind keys) _ _ (λ _. h) (λ _. k)

  pub names_other : {A : Type 0} {Q : A → Type 0} (kind : ℕ) (other : Rule A) → Names P E Q other → Names P E Q (choose kind [] other)
  unfolding choose
  names_other kind other h = h

  -- loops: what holds at every index from `i` on
  pub names_each : {A : Type 0} (f : ℕ → A → Rule A) (i : ℕ) (xs : List A) →
      ((j : ℕ) (x : A) → i ≤ j → j < i + length xs → Names P E Any (f j x)) → Names P E Any (each f i xs)
  unfolding each
  names_each f i [] h = names_any
  names_each f i (x ∷ xs) h =
      names_then (h i x (omega arith) (omega arith))
      (λ y. names_then (names_each f (i + 1) xs (λ j z l m. h j z (omega arith) (omega arith))) (λ ys. names_any))

  pub names_fold : {A : Type 0} (f : ℕ → A → Rule A) (i n : ℕ) (a : A) →
      ((j : ℕ) (b : A) → i ≤ j → j < i + n → Names P E Any (f j b)) → Names P E Any (fold f i n a)
  unfolding fold
  names_fold f i zero a h = names_any
  names_fold f i (suc n) a h =
      names_then (h i a (omega arith) (omega arith)) (λ b. names_fold f (i + 1) n b (λ j c l m. h j c (omega arith) (omega arith)))

  -- from 0 on, where there are at most so many turns
  pub fold_most : {A : Type 0} {most : ℕ} (f : ℕ → A → Rule A) (n : ℕ) (a : A) → n ≤ most →
      ((j : ℕ) (b : A) → j < most → Names P E Any (f j b)) → Names P E Any (fold f 0 n a)
  fold_most f n a l h = names_fold f 0 n a (λ j b _ m. h j b (omega arith))

  -- What comes after a field or a question, with what is known by then. (`search` does not find what a rule is said to
  -- give, so each has a law of its own.)
  module _ {B : Type 0} {R : B → Type 0} where
    pub take_then : (name w : ℕ) (g : ℕ → Rule B) → P name → ((v : ℕ) → v ≤ 2 ^ w - 1 → Names P E R (g v)) → Names P E R (take name w >>= g)
    take_then name w g h k = names_bind (take_value name w h) k

    pub escaped_then : (name : ℕ) (ws : List ℕ) (g : ℕ → Rule B) → P name → ((v : ℕ) → v ≤ most ws → Names P E R (g v)) →
        Names P E R (escaped name ws >>= g)
    escaped_then name ws g h k = names_bind (escaped_value name ws h) k

    pub demand_then : (b : Bool) (x : End) (g : Unit {0} → Rule B) → (b ≡ false → Numbered E (end_outcome x)) →
        (b ≡ true → Names P E R (g tt)) → Names P E R (demand b x >>= g)
    demand_then b x g n k = names_bind (demand_value b x n) (λ _ e. k e)

    pub most_then : (n m : ℕ) (x : End) (g : Unit {0} → Rule B) → Numbered E (end_outcome x) → (n ≤ m → Names P E R (g tt)) →
        Names P E R (demand (leb n m) x >>= g)
    most_then n m x g h k = demand_then _ x g (λ _. h) (λ e. k (leb-true n m e))

    pub count_then : (n least : ℕ) (g : ℕ → Rule B) → E 6 → (n ≤ 4096 → Names P E R (g n)) → Names P E R (count n least >>= g)
    count_then n least g above k = names_bind (count_value n least above) (λ v q. rw q.0 (k (rw q.0 at q.1)))

    pub drc_count_then : (name w least : ℕ) (g : ℕ → Rule B) → P name → E 6 →
        ((v : ℕ) → v ≤ 2 ^ w - 1 → v ≤ 4096 → Names P E R (g v)) → Names P E R (drc_count name w least >>= g)
    drc_count_then name w least g h above k = names_bind (drc_count_value name w least h above) (λ v q. k v q.0 q.1)

  -- an entry asks 1 and its own questions, 0 being that they are met
  entry_value : (size own offset : ℕ) → E 1 → (eqb own 0 ≡ false → E own) → Names P E (λ _. own ≡ 0) (entry size own offset)
  unfolding entry
  entry_value size own offset large h =
      names_then (names_demand _ _ (λ _. large))
      (λ _. names_bind (demand_value (eqb own 0) _ h)
      (λ _ e. names_then (names_set_end _) (λ _. names_weaker (names_skip offset) (λ _ _. eqb-true own 0 e))))

  -- a whole call, of which no field is recorded unless they are
  pub entry_told : {A : Type 0} {Q : A → Type 0} {r : Rule A} → OfReadings E → E 1 → (i : Input) (own offset : ℕ) → (eqb own 0 ≡ false → E own) →
      (own ≡ 0 → Names P E Q r) → Told P E (entry_reading i own offset r)
  entry_told o large i own offset h k = told o i 0 0 0 (names_bind (entry_value _ own offset large h) (λ _ e. k e))

-- For `search`, with what shows P of a name and E of a number beside it. The laws that say most stand first.
pub ruleset names =
    (names_any, names_ends, take_then, escaped_then, most_then, demand_then, count_then, drc_count_then, names_then, names_take, names_flag, names_escaped, names_passive_bits, names_passive_values, names_label, names_demand, names_count, names_position, names_end, names_remaining, names_set_end, names_skip, names_pick, names_arm, names_other, names_each, fold_most, names_fold)
