-- The kinds of fields and questions, each written as the Rust's method of that name, and the Rust's `match` and `for`.
use Rattle.std.specs.Prelude.{ℕ, zero, suc, ◌+◌, ◌-◌, ◌*◌, ◌^◌, List, [], ◌∷◌, Bool, false, not, ◌&&◌, ◌||◌, leb, eqb}
use Rattle.rules.specs.declared.FieldValue.TheVariants.{Flag, Number, Bits, Bytes}
use Rattle.rules.specs.Rule.{Rule, done, ends, End, refused, stopped, ◌>>=◌, ◌>>◌, pick, position, end, bits, skip, set_end, field}

-- `take`
unfoldable pub take : ℕ → ℕ → Rule ℕ
take name w = do
  start ← position
  v ← bits w
  field name start (Number v)
  done v

abbrev pub is_one : ℕ → Bool
is_one v = not (eqb v 0)

-- `flag`
unfoldable pub flag : ℕ → Rule Bool
flag name = do
  start ← position
  v ← bits 1
  field name start (Flag (is_one v))
  done (is_one v)

-- a part of all ones, `(1 << width) - 1`
abbrev pub is_full : ℕ → ℕ → Bool
is_full v w = eqb v (2 ^ w - 1)

-- the parts of an escaped number, added to `value`: one of all ones is followed by the next
unfoldable pub parts : ℕ → List ℕ → Rule ℕ
parts value [] = done value
parts value (w ∷ ws) = do
  v ← bits w
  pick (is_full v w) (parts (value + v) ws) (done (value + v))

-- `esc`: the whole is one field
unfoldable pub escaped : ℕ → List ℕ → Rule ℕ
escaped name widths = do
  start ← position
  v ← parts 0 widths
  field name start (Number v)
  done v

-- `passive_bits`: a payload, of which 0 bits make no field
unfoldable pub passive_bits : ℕ → ℕ → Rule (Unit {0})
passive_bits name w =
    pick (eqb w 0)
    (done tt)
    (do
      start ← position
      skip w
      field name start (Bits w))

-- `passive_values`, and the loops over widths in `position`: numbers of these widths, their names `step` apart
unfoldable pub passive_values : ℕ → ℕ → List ℕ → Rule (Unit {0})
passive_values name step [] = done tt
passive_values name step (w ∷ ws) = do
  take name w
  passive_values (name + step) step ws

-- An arm of a `match`: its keys, and its rule.
infix 68 ◌⇒◌
pub data Arm (A : Type 0) : Type 0 where
  ◌⇒◌ : List ℕ → Rule A → Arm A

abbrev pub among : ℕ → List ℕ → Bool
among kind [] = false
among kind (k ∷ ks) = eqb kind k || among kind ks

-- `match kind { .. }`: the rule of the arm that has the number among its keys, or `other`
abbrev pub arm_of : {A : Type 0} → ℕ → List (Arm A) → Rule A → Rule A
arm_of kind [] other = other
arm_of kind ((keys ⇒ r) ∷ arms) other = pick (among kind keys) r (arm_of kind arms other)

unfoldable pub choose : {A : Type 0} → ℕ → List (Arm A) → Rule A → Rule A
choose kind arms other = arm_of kind arms other

-- `for (i, x) in list.iter_mut().enumerate()`: each value is replaced by what its rule gives, the first being number `i`
unfoldable pub each : {A : Type 0} → (ℕ → A → Rule A) → ℕ → List A → Rule (List A)
each f i [] = done []
each f i (x ∷ xs) = do
  y ← f i x
  ys ← each f (i + 1) xs
  done (y ∷ ys)

-- `for i in i..i + n { .. }`, with a value that goes from one turn to the next; and without one, from 0 on
unfoldable pub fold : {A : Type 0} → (ℕ → A → Rule A) → ℕ → ℕ → A → Rule A
fold f i zero a = done a
fold f i (suc n) a = do
  b ← f i a
  fold f (i + 1) n b

abbrev pub repeat : (ℕ → Rule (Unit {0})) → ℕ → Rule (Unit {0})
repeat f n = fold (λ i _. f i) 0 n tt

-- the bytes of a label, of which `n` are read and at most `k` follow: how many there are with the zero byte
unfoldable pub label_bytes : ℕ → ℕ → Rule ℕ
label_bytes zero n = ends (refused 17)
label_bytes (suc k) n = do
  v ← bits 8
  pick (eqb v 0) (done (n + 1)) (label_bytes k (n + 1))

-- the loop in `metadata_global_parameter`
unfoldable pub label : ℕ → Rule (Unit {0})
label name = do
  start ← position
  n ← label_bytes 4097 0
  field name start (Bytes n)

-- `invalid`, `stop`
abbrev pub invalid : ℕ → Rule (Unit {0})
invalid number = ends (refused number)

abbrev pub stop : ℕ → Rule (Unit {0})
stop number = ends (stopped number)

-- one of them, unless `b`
unfoldable pub demand : Bool → End → Rule (Unit {0})
demand b x = pick b (done tt) (ends x)

-- `BitReader::remaining`
unfoldable pub remaining : Rule ℕ
remaining = do
  e ← end
  p ← position
  done (e - p)

-- `count`
unfoldable pub count : ℕ → ℕ → Rule ℕ
count n least = do
  left ← remaining
  demand (leb n 4096 && leb (n * least) left) (refused 6)
  done n

-- `drc_count`
unfoldable pub drc_count : ℕ → ℕ → ℕ → Rule ℕ
drc_count name w least = do
  n ← take name w
  count n least

-- What every entry asks of an input of `size` bytes: 1; its own questions, of which `own` is the number of the first
-- that is not met, or 0; and 3. The reading is then at `offset` of the input: `Parser::new`, `bits.skip(offset)`.
unfoldable pub entry : ℕ → ℕ → ℕ → Rule (Unit {0})
entry size own offset = do
  demand (leb size 8388608) (refused 1)
  demand (eqb own 0) (refused own)
  set_end (8 * size)
  skip offset
