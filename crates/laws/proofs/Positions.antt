-- Law (f), of refusals: each question's number stands at the bit that document 01 gives.
use Prim.Native.Nat.{ℕ, zero, suc, ◌+◌, ◌-◌, ◌*◌, ◌<◌, ◌≤◌}
use mathlib.Core.Path.{◌≡◌, refl, ◌∙◌}
use mathlib.Core.List.{List, [], ◌∷◌, ◌++◌}
use mathlib.Core.Bool.{Bool, true, false, ◌&&◌}
use native.Mathlib.Omega.{arith}
use native.Mathlib.Nat.{add-zero}
use borrow.Author.Tests.{lt-ltb, le-ltb, lt-leb, le-leb, eq-eqb, ne_eqb}
use lib.ListN.{length}
use lib.Dec.{leb}
use Rattle.rules.specs.declared.FieldValue.{FieldValue}
use Rattle.rules.specs.Rule.{Rule, End, refused, ◌>>=◌, position, end, bits, skip, set_end, field}
use Rattle.rules.specs.Reading.{Input, reading, ended_at, has_room}
use Rattle.rules.specs.Derived.{take, flag, parts, escaped, passive_bits, label_bytes, label, demand, remaining, count, entry}
use Rattle.bits.specs.Bits.{bits_at}
use Rattle.laws.specs.Positions.{Ones, total, NonZero}
use Rattle.rules.proofs.Bind.{bind}

module _ (i : Input) (e n : ℕ) where
  -- a rule that takes the position first, and then ends
  after_position : {A B : Type 0} (r : Rule A) (f : ℕ → A → Rule B) (p : ℕ) {x : End} {q : ℕ} → reading i r p e n ≡ ended_at x q e →
      reading i (position >>= (λ start. r >>= f start)) p e n ≡ ended_at x q e
  unfolding position ◌>>=◌ reading
  after_position r f p h = rw (bind i r (f p) p e n, h)

  -- a question that is not met, and one that is, before more
  broken : {A : Type 0} {b : Bool} (x : End) (f : Unit {0} → Rule A) (p : ℕ) → b ≡ false → reading i (demand b x >>= f) p e n ≡ ended_at x p e
  unfolding demand ◌>>=◌ reading
  broken x f p h = rw h

  kept : {A : Type 0} {b : Bool} (x : End) (f : Unit {0} → Rule A) (p : ℕ) → b ≡ true → reading i (demand b x >>= f) p e n ≡ reading i (f tt) p e n
  unfolding demand ◌>>=◌ reading
  kept x f p h = rw h

  -- 3: a number, a flag and a payload at their start
  pub take_cut : (name w p : ℕ) → e - p < w → reading i (take name w) p e n ≡ ended_at (refused 3) p e
  unfolding take position bits ◌>>=◌ reading
  take_cut name w p h = rw (lt-ltb _ _ h)

  pub flag_cut : (name p : ℕ) → e ≤ p → reading i (flag name) p e n ≡ ended_at (refused 3) p e
  unfolding flag position bits ◌>>=◌ reading
  flag_cut name p h = let l : e - p < 1 = omega arith in rw (lt-ltb _ _ l)

  pub passive_bits_cut : (name w p : ℕ) → e - p < w → reading i (passive_bits name w) p e n ≡ ended_at (refused 3) p e
  unfolding passive_bits position skip ◌>>=◌ reading
  passive_bits_cut name w p h = let l : w ≡ 0 → ⊥ = (λ z. omega arith) in rw (ne_eqb w 0 l, lt-ltb _ _ h)

  -- 3 in an escaped number: parts of all ones, and then one that is cut is refused at its own start
  parts_cut : (value : ℕ) (us : List ℕ) (w : ℕ) (ws : List ℕ) (p : ℕ) → Ones i.bytes e p us → e - (p + total us) < w →
      reading i (parts value (us ++ w ∷ ws)) p e n ≡ ended_at (refused 3) (p + total us) e
  unfolding parts bits ◌>>=◌ reading
  parts_cut value [] w ws p o h = let l : e - p < w = omega arith in rw (add-zero, lt-ltb _ _ l)
  parts_cut value (u ∷ us) w ws p o h =
      let q : p + u + total us ≡ p + total (u ∷ us) = omega arith in
      rw (le-ltb _ _ o.0, o.1, ← q) (parts_cut (value + bits_at i.bytes p u) us w ws (p + u) o.2 (omega arith))

  pub escaped_cut : (name : ℕ) (us : List ℕ) (w : ℕ) (ws : List ℕ) (p : ℕ) → Ones i.bytes e p us → e - (p + total us) < w →
      reading i (escaped name (us ++ w ∷ ws)) p e n ≡ ended_at (refused 3) (p + total us) e
  unfolding escaped
  escaped_cut name us w ws p o h = after_position _ _ p (parts_cut 0 us w ws p o h)

  -- 3 in a label: at the byte that is cut; 17: just after the last of 4,097 bytes
  bytes_cut : (c k m p : ℕ) → c < k → NonZero i.bytes e p c → e - (p + 8 * c) < 8 → reading i (label_bytes k m) p e n ≡ ended_at (refused 3) (p + 8 * c) e
  unfolding label_bytes bits ◌>>=◌ reading
  bytes_cut c zero m p l o h = absurd (omega arith)
  bytes_cut zero (suc k) m p l o h = let g : e - p < 8 = omega arith in let q : p + 8 * 0 ≡ p = omega arith in rw (lt-ltb _ _ g, q)
  bytes_cut (suc c) (suc k) m p l o h =
      let q : p + 8 + 8 * c ≡ p + 8 * suc c = omega arith in
      rw (le-ltb _ _ o.0, ne_eqb _ _ o.1, ← q) (bytes_cut c k (m + 1) (p + 8) (omega arith) o.2 (omega arith))

  pub label_cut : (name c p : ℕ) → c ≤ 4096 → NonZero i.bytes e p c → e - (p + 8 * c) < 8 → reading i (label name) p e n ≡ ended_at (refused 3) (p + 8 * c) e
  unfolding label
  label_cut name c p l o h = after_position _ _ p (bytes_cut c 4097 0 p (omega arith) o h)

  bytes_limit : (k m p : ℕ) → NonZero i.bytes e p k → reading i (label_bytes k m) p e n ≡ ended_at (refused 17) (p + 8 * k) e
  unfolding label_bytes bits ◌>>=◌ reading
  bytes_limit zero m p o = let q : p + 8 * 0 ≡ p = omega arith in rw q
  bytes_limit (suc k) m p o =
      let q : p + 8 + 8 * k ≡ p + 8 * suc k = omega arith in rw (le-ltb _ _ o.0, ne_eqb _ _ o.1, ← q) (bytes_limit k (m + 1) (p + 8) o.2)

  pub label_limit : (name p : ℕ) → NonZero i.bytes e p 4097 → reading i (label name) p e n ≡ ended_at (refused 17) (p + 8 * 4097) e
  unfolding label
  label_limit name p o = after_position _ _ p (bytes_limit 4097 0 p o)

  -- 4 and 5: just after the bits of the field
  pub field_limit : (name start p : ℕ) (v : FieldValue) → 16384 ≤ n → reading i (field name start v) p e n ≡ ended_at (refused 4) p e
  unfolding field reading
  field_limit name start p v h = rw (le-ltb _ _ h)

  pub field_room : (name start p : ℕ) (v : FieldValue) → n < 16384 → has_room i n ≡ false → reading i (field name start v) p e n ≡ ended_at (refused 5) p e
  unfolding field reading
  field_room name start p v h r = rw (lt-ltb _ _ h, r)

  pub take_limit : (name w p : ℕ) → w ≤ e - p → 16384 ≤ n → reading i (take name w) p e n ≡ ended_at (refused 4) (p + w) e
  unfolding take position bits field ◌>>=◌ reading
  take_limit name w p l h = rw (le-ltb _ _ l, le-ltb _ _ h)

  pub take_room : (name w p : ℕ) → w ≤ e - p → n < 16384 → has_room i n ≡ false → reading i (take name w) p e n ≡ ended_at (refused 5) (p + w) e
  unfolding take position bits field ◌>>=◌ reading
  take_room name w p l h r = rw (le-ltb _ _ l, lt-ltb _ _ h, r)

  -- 6 and every other question: at the position, so just after the bits last read
  pub demand_refused : (x : End) (p : ℕ) → reading i (demand false x) p e n ≡ ended_at x p e
  unfolding demand reading
  demand_refused x p = refl

  pub count_refused : (m least p : ℕ) → (leb m 4096 && leb (m * least) (e - p)) ≡ false → reading i (count m least) p e n ≡ ended_at (refused 6) p e
  unfolding count remaining end position ◌>>=◌ reading
  count_refused m least p h = broken _ _ p h

-- 1, an entry's own questions, and 3 of an entry: at position 0, with no fields
module _ (i : Input) (n size own offset : ℕ) where
  pub entry_long : 8388608 < size → reading i (entry size own offset) 0 0 n ≡ ended_at (refused 1) 0 0
  unfolding entry
  entry_long h = broken i 0 n _ _ 0 (lt-leb _ _ h)

  pub entry_own : size ≤ 8388608 → (own ≡ 0 → ⊥) → reading i (entry size own offset) 0 0 n ≡ ended_at (refused own) 0 0
  unfolding entry
  entry_own h g = kept i 0 n _ _ 0 (le-leb _ _ h) ∙ broken i 0 n _ _ 0 (ne_eqb _ _ g)

  -- the window is then the whole input
  window : 8 * size < offset → size ≡ length i.bytes → reading i (set_end (8 * size) >>= (λ _. skip offset)) 0 0 n ≡ ended_at (refused 3) 0 (8 * size)
  unfolding set_end skip ◌>>=◌ reading
  window h l =
      let a : 0 ≤ 8 * size = omega arith in
      let b : 8 * size ≤ 8 * length i.bytes = omega arith in
      let c : 8 * size - 0 < offset = omega arith in
      rw (le-leb _ _ a, le-leb _ _ b, lt-ltb _ _ c)

  pub entry_past : size ≡ length i.bytes → size ≤ 8388608 → own ≡ 0 → 8 * size < offset → reading i (entry size own offset) 0 0 n ≡ ended_at (refused 3) 0 (8 * size)
  unfolding entry
  entry_past l h g k = kept i 0 n _ _ 0 (le-leb _ _ h) ∙ (kept i 0 n _ _ 0 (eq-eqb _ _ g) ∙ window k l)
