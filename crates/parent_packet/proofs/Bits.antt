-- What a rule reads: of each value that it can come to, and of the bits read up to it. And one law: what holds of a rule's values and
-- bits holds of every reading of it that is read.
use Prim.Native.Nat.{ℕ, zero, suc, ◌+◌, ◌-◌, ◌^◌, ◌<◌, ◌≤◌}
use mathlib.Core.Path.{◌≡◌, refl, subst}
use mathlib.Core.List.{List, [], ◌∷◌, ◌++◌, append_assoc}
use mathlib.Core.Bool.{Bool, true, false}
use native.Mathlib.Omega.{arith}
use lib.Dec.{ltb}
use Rattle.bits.specs.Bits.{bits_at}
use Rattle.bits.proofs.Laws.{bits_lt}
use Rattle.rules.specs.Rule.{Rule, done, ends, position_then, end_then, bits_then, skip_then, field_then, set_end_then, End, ◌>>=◌, position, bits, field}
use Rattle.rules.specs.Reading.{Reading, read, ended, Input, reading, has_room, inside}
use Rattle.rules.specs.Derived.{take, flag, is_one}
use Rattle.rules.proofs.Pick.{by_pick}
use Rattle.rules.proofs.Forward.{forward}
use Rattle.bit_writer.specs.Bits.{bits_of, bits_from}
use Rattle.bit_writer.proofs.Laws.{bits_from_at, bits_from_both}

-- Q of every value and of the bits read up to it, wherever the reading stands and whatever the bits are
unfoldable pub Read : {A : Type 0} → (A → List ℕ → Type 0) → Rule A → Type 0
Read Q (done a) = Q a []
Read Q (ends x) = Unit {0}
Read Q (position_then k) = (p : ℕ) → Read Q (k p)
Read Q (end_then k) = (e : ℕ) → Read Q (k e)
Read Q (bits_then w k) = (v : ℕ) → v < 2 ^ w → Read (λ a bs. Q a (bits_of w v ++ bs)) (k v)
Read Q (skip_then w k) = (v : ℕ) → v < 2 ^ w → Read (λ a bs. Q a (bits_of w v ++ bs)) k
Read Q (field_then name start v k) = Read Q k
Read Q (set_end_then x k) = Read Q k

-- the law, of the bits from the position `p` on
abbrev pub OfReading : {A : Type 0} → (A → List ℕ → Type 0) → Input → ℕ → Reading A → Type 0
OfReading {A} Q i p x = (a : A) → x.result ≡ read a → Q a (bits_from i.bytes p (x.position - p))

unread : {A : Type 0} {P : Type 0} {x : End} {a : A} → ended x ≡ read a → P
unread h = absurd (let z : ◌≡◌ {A = ℕ} 0 1 = cc in omega arith)

-- the bits from `p` to `q`, of which the first `w` are those of a number
front : (bytes : List ℕ) (p q w : ℕ) → p + w ≤ q → bits_of w (bits_at bytes p w) ++ bits_from bytes (p + w) (q - (p + w)) ≡ bits_from bytes p (q - p)
front bytes p q w h =
    let two : w + (q - (p + w)) ≡ q - p = omega arith in
    rw (← bits_from_at, ← bits_from_both, two) refl

pub of_read : {A : Type 0} (Q : A → List ℕ → Type 0) (i : Input) (r : Rule A) (p e n : ℕ) → Read Q r → OfReading Q i p (reading i r p e n)
unfolding reading Read bits_from
of_read Q i (done a) p e n t = λ b h. let same : a ≡ b = cc in let nothing : p - p ≡ 0 = omega arith in rw nothing (rw same at t)
of_read Q i (ends x) p e n t = λ a h. unread h
of_read Q i (position_then k) p e n t = of_read Q i (k p) p e n (t p)
of_read Q i (end_then k) p e n t = of_read Q i (k e) p e n (t e)
of_read Q i (bits_then w k) p e n t =
    let v = bits_at i.bytes p w in
    by_pick (OfReading Q i p) (ltb (e - p) w) _ _ (λ _ a h. unread h)
    (λ _ a h.
    subst (Q a) (front i.bytes p _ w (forward i (k v) (p + w) e n))
    (of_read (λ a bs. Q a (bits_of w v ++ bs)) i (k v) (p + w) e n (t v (bits_lt i.bytes p w)) a h))
of_read Q i (skip_then w k) p e n t =
    let v = bits_at i.bytes p w in
    by_pick (OfReading Q i p) (ltb (e - p) w) _ _ (λ _ a h. unread h)
    (λ _ a h.
    subst (Q a) (front i.bytes p _ w (forward i k (p + w) e n))
    (of_read (λ a bs. Q a (bits_of w v ++ bs)) i k (p + w) e n (t v (bits_lt i.bytes p w)) a h))
of_read Q i (field_then name start v k) p e n t =
    by_pick (OfReading Q i p) (ltb n 16384) _ _
    (λ _. by_pick (OfReading Q i p) (has_room i n) _ _ (λ _ a h. of_read Q i k p e (n + 1) t a h) (λ _ a h. unread h))
    (λ _ a h. unread h)
of_read Q i (set_end_then x k) p e n t = by_pick (OfReading Q i p) (inside i p x) _ _ (λ _. of_read Q i k p x n t) (λ _ a h. unread h)

-- what is said of every value and its bits, and what follows from it
weaker : {A : Type 0} (r : Rule A) (P Q : A → List ℕ → Type 0) → Read P r → ((a : A) (bs : List ℕ) → P a bs → Q a bs) → Read Q r
unfolding Read
weaker (done a) P Q t h = h a [] t
weaker (ends x) P Q t h = tt
weaker (position_then k) P Q t h = λ p. weaker (k p) P Q (t p) h
weaker (end_then k) P Q t h = λ e. weaker (k e) P Q (t e) h
weaker (bits_then w k) P Q t h =
    λ v l. weaker (k v) (λ a bs. P a (bits_of w v ++ bs)) (λ a bs. Q a (bits_of w v ++ bs)) (t v l) (λ a bs. h a (bits_of w v ++ bs))
weaker (skip_then w k) P Q t h = λ v l. weaker k (λ a bs. P a (bits_of w v ++ bs)) (λ a bs. Q a (bits_of w v ++ bs)) (t v l) (λ a bs. h a (bits_of w v ++ bs))
weaker (field_then name start v k) P Q t h = weaker k P Q t h
weaker (set_end_then x k) P Q t h = weaker k P Q t h

-- one rule after another
module _ {A B : Type 0} (f : A → Rule B) where
  abbrev Then : (A → List ℕ → Type 0) → (B → List ℕ → Type 0) → Type 0
  Then P Q = (a : A) (bs : List ℕ) → P a bs → Read (λ b cs. Q b (bs ++ cs)) (f a)

  further : (cs : List ℕ) (P : A → List ℕ → Type 0) (Q : B → List ℕ → Type 0) → Then P Q → Then (λ a bs. P a (cs ++ bs)) (λ b bs. Q b (cs ++ bs))
  further cs P Q h =
      λ a bs g. weaker (f a) (λ b ds. Q b (cs ++ bs ++ ds)) (λ b ds. Q b (cs ++ (bs ++ ds))) (h a (cs ++ bs) g) (λ b ds q. subst (Q b) (append_assoc cs bs ds) q)

  read_bind : (r : Rule A) (P : A → List ℕ → Type 0) (Q : B → List ℕ → Type 0) → Read P r → Then P Q → Read Q (r >>= f)
  unfolding Read ◌>>=◌
  read_bind (done a) P Q t h = h a [] t
  read_bind (ends x) P Q t h = tt
  read_bind (position_then k) P Q t h = λ p. read_bind (k p) P Q (t p) h
  read_bind (end_then k) P Q t h = λ e. read_bind (k e) P Q (t e) h
  read_bind (bits_then w k) P Q t h =
      λ v l. let cs = bits_of w v in read_bind (k v) (λ a bs. P a (cs ++ bs)) (λ b bs. Q b (cs ++ bs)) (t v l) (further cs P Q h)
  read_bind (skip_then w k) P Q t h =
      λ v l. let cs = bits_of w v in read_bind k (λ a bs. P a (cs ++ bs)) (λ b bs. Q b (cs ++ bs)) (t v l) (further cs P Q h)
  read_bind (field_then name start v k) P Q t h = read_bind k P Q t h
  read_bind (set_end_then x k) P Q t h = read_bind k P Q t h

-- The same of a rule as a whole, and the rules that are put together of others.
pub record Reads {A : Type 0} (Q : A → List ℕ → Type 0) (r : Rule A) : Type 0 where
  pub read : Read Q r

pub reads_bind : {A B : Type 0} {P : A → List ℕ → Type 0} {Q : B → List ℕ → Type 0} {r : Rule A} {f : A → Rule B} → Reads P r →
    ((a : A) (bs : List ℕ) → P a bs → Reads (λ b cs. Q b (bs ++ cs)) (f a)) → Reads Q (r >>= f)
reads_bind {A} {B} {P} {Q} {r} {f} t h = record { read = read_bind f r P Q t.read (λ a bs g. (h a bs g).read) }

pub reads_done : {A : Type 0} {Q : A → List ℕ → Type 0} {a : A} → Q a [] → Reads Q (done a)
unfolding Read
reads_done h = record { read = h }

pub reads_next : {A B : Type 0} {Q : B → List ℕ → Type 0} (a : A) (f : A → Rule B) → Reads Q (f a) → Reads Q (done a >>= f)
unfolding ◌>>=◌
reads_next a f h = h

pub reads_ended : {A B : Type 0} {Q : B → List ℕ → Type 0} (x : End) (f : A → Rule B) → Reads Q (ends x >>= f)
unfolding Read ◌>>=◌
reads_ended x f = record { read = tt }

-- a number, and a flag, with what follows
pub reads_take : {A : Type 0} {Q : A → List ℕ → Type 0} (name w : ℕ) (f : ℕ → Rule A) →
    ((v : ℕ) → v < 2 ^ w → Reads (λ a cs. Q a (bits_of w v ++ cs)) (f v)) → Reads Q (take name w >>= f)
unfolding Read take position bits field ◌>>=◌
reads_take name w f h = record { read = λ p v l. (h v l).read }

one : {A : Type 0} (Q : A → List ℕ → Type 0) (f : Bool → Rule A) (v : ℕ) → v < 2 → Read (λ a cs. Q a (0 ∷ cs)) (f false) → Read (λ a cs. Q a (1 ∷ cs)) (f true) →
    Read (λ a cs. Q a (bits_of 1 v ++ cs)) (f (is_one v))
unfolding bits_of
one Q f zero l unset isset = unset
one Q f (suc zero) l unset isset = isset
one Q f (suc (suc v)) l unset isset = absurd (omega arith)

pub reads_flag : {A : Type 0} {Q : A → List ℕ → Type 0} (name : ℕ) (f : Bool → Rule A) → Reads (λ a cs. Q a (0 ∷ cs)) (f false) → Reads (λ a cs. Q a (1 ∷ cs)) (f true) →
    Reads Q (flag name >>= f)
unfolding Read flag position bits field ◌>>=◌
reads_flag {A} {Q} name f unset isset = record { read = λ p v l. one Q f v (omega (arith, l)) unset.read isset.read }

-- nothing is said of the bits of any rule
any : {A : Type 0} (r : Rule A) → Read (λ a bs. Unit {0}) r
unfolding Read
any (done a) = tt
any (ends x) = tt
any (position_then k) = λ p. any (k p)
any (end_then k) = λ e. any (k e)
any (bits_then w k) = λ v l. any (k v)
any (skip_then w k) = λ v l. any k
any (field_then name start v k) = any k
any (set_end_then x k) = any k

pub reads_any : {A : Type 0} {r : Rule A} → Reads (λ a bs. Unit {0}) r
reads_any {A} {r} = record { read = any r }

pub reads_weaker : {A : Type 0} {P Q : A → List ℕ → Type 0} {r : Rule A} → Reads P r → ((a : A) (bs : List ℕ) → P a bs → Q a bs) → Reads Q r
reads_weaker {A} {P} {Q} {r} t h = record { read = weaker r P Q t.read h }
