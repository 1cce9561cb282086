-- Rules that take these very bits: they are read wherever the bits stand, come to this value, and make so many fields at most.
use Prim.Native.Nat.{ℕ, suc, ◌+◌, ◌-◌, ◌*◌, ◌^◌, ◌<◌, ◌≤◌}
use mathlib.Core.Path.{◌≡◌, refl}
use mathlib.Core.List.{List, [], ◌∷◌, ◌++◌, append-nil}
use mathlib.Core.Bool.{Bool, true, false, not, ◌||◌}
use native.Mathlib.Omega.{arith}
use borrow.Author.Tests.{lt-ltb, le-ltb, le-leb}
use lib.Dec.{leb}
use lib.ListN.{length, length-append}
use Rattle.bits.specs.Bits.{bit_at, bits_at}
use Rattle.rules.specs.Rule.{Rule, done, ◌>>=◌, position, bits, field}
use Rattle.rules.specs.Reading.{Reading, read, Input, reading, has_room}
use Rattle.rules.specs.Derived.{take, flag, is_one}
use Rattle.rules.proofs.Bind.{bind, then}
use Rattle.bit_writer.specs.Bits.{bits_of, bits_from}
use Rattle.bit_writer.proofs.Laws.{bits_at_from, length_bits_of}

-- bits that stand at a position of bytes
unfoldable pub Holds : List ℕ → ℕ → List ℕ → Type 0
Holds bytes p [] = Unit {0}
Holds bytes p (b ∷ bs) = (bit_at bytes p ≡ b) × Holds bytes (p + 1) bs

-- bits up to the end, and fields that may be counted after `n`, with words for them if recording is on
pub record Room (i : Input) (bits k p e n : ℕ) : Type 0 where
  pub bits_left : p + bits ≤ e
  pub few : n + k ≤ 16384
  pub words : i.recording ≡ true → 5 * (n + k) ≤ i.room

-- a reading that comes to a value, after so many bits and with at most so many fields
pub record Came {A : Type 0} (x : Reading A) (a : A) (q e k : ℕ) : Type 0 where
  pub result : x.result ≡ read a
  pub position : x.position ≡ q
  pub end : x.end ≡ e
  pub fields : length x.fields ≤ k

pub record Takes {A : Type 0} (r : Rule A) (bs : List ℕ) (k : ℕ) (a : A) : Type 0 where
  pub takes : (i : Input) (p e n : ℕ) → Holds i.bytes p bs → Room i (length bs) k p e n → Came (reading i r p e n) a (p + length bs) e k

-- the bits of two runs
first_held : (bytes : List ℕ) (p : ℕ) (bs cs : List ℕ) → Holds bytes p (bs ++ cs) → Holds bytes p bs
unfolding Holds
first_held bytes p [] cs h = tt
first_held bytes p (b ∷ bs) cs h = (h.0, first_held bytes (p + 1) bs cs h.1)

then_held : (bytes : List ℕ) (p : ℕ) (bs cs : List ℕ) → Holds bytes p (bs ++ cs) → Holds bytes (p + length bs) cs
unfolding Holds
then_held bytes p [] cs h = let here : p + 0 ≡ p = omega arith in rw here h
then_held bytes p (b ∷ bs) cs h = let here : p + 1 + length bs ≡ p + suc (length bs) = omega arith in rw here at (then_held bytes (p + 1) bs cs h.1)

pub holds_from : (bytes : List ℕ) (p : ℕ) (bs : List ℕ) → bits_from bytes p (length bs) ≡ bs → Holds bytes p bs
unfolding bits_from Holds
holds_from bytes p [] h = tt
holds_from bytes p (b ∷ bs) h = (cc, holds_from bytes (p + 1) bs cc)

from_holds : (bytes : List ℕ) (p : ℕ) (bs : List ℕ) → Holds bytes p bs → bits_from bytes p (length bs) ≡ bs
unfolding bits_from Holds
from_holds bytes p [] h = refl
from_holds bytes p (b ∷ bs) h = rw (h.0, from_holds bytes (p + 1) bs h.1) refl

-- one rule after another
module _ {A B : Type 0} (i : Input) (f : A → Rule B) (n : ℕ) where
  came_then : {a : A} {b : B} {q u e k m : ℕ} (x : Reading A) → Came x a q e k → Came (reading i (f a) q e (n + length x.fields)) b u e m →
      Came (then (λ a. reading i (f a)) n x) b u e (k + m)
  came_then x c d =
      rw (c.result, c.position, c.end)
      (record { result = d.result; position = d.position; end = d.end; fields = rw length-append (omega (arith, c.fields, d.fields)) })

pub takes_bind : {A B : Type 0} {r : Rule A} (f : A → Rule B) {bs cs : List ℕ} {k m : ℕ} {a : A} {b : B} → Takes r bs k a → Takes (f a) cs m b →
    Takes (r >>= f) (bs ++ cs) (k + m) b
takes_bind {A} {B} {r} f {bs} {cs} {k} {m} {a} {b} t u =
    record {
      takes = λ i p e n h g.
          let long = length-append bs cs in
          let x = t.takes i p e n (first_held i.bytes p bs cs h) (record { bits_left = omega (arith, g.bits_left); few = omega (arith, g.few); words = λ q. omega (arith, g.words q) }) in
          let y = u.takes i (p + length bs) e (n + length (reading i r p e n).fields) (then_held i.bytes p bs cs h)
          (record { bits_left = omega (arith, g.bits_left); few = omega (arith, g.few, x.fields); words = λ q. omega (arith, g.words q, x.fields) }) in
          let end : p + length (bs ++ cs) ≡ p + length bs + length cs = omega arith in
          rw (bind, end) (came_then i f n (reading i r p e n) x y);
    }

pub takes_done : {A : Type 0} {a : A} → Takes (done a) [] 0 a
unfolding reading
takes_done = record { takes = λ i p e n h g. record { result = refl; position = omega arith; end = refl; fields = omega arith } }

pub takes_next : {A B : Type 0} (f : A → Rule B) (a : A) {bs : List ℕ} {k : ℕ} {b : B} → Takes (f a) bs k b → Takes (done a >>= f) bs k b
unfolding ◌>>=◌
takes_next f a t = t

-- a field has its words, and is not the last that is counted
has_words : (i : Input) (bits p e n : ℕ) → Room i bits 1 p e n → has_room i n ≡ true
has_words i bits p e n g = go i.recording refl
  where
    go : (b : Bool) → i.recording ≡ b → (not b || leb (5 * n + 5) i.room) ≡ true
    go true h = le-leb _ _ (omega (arith, g.words h, g.few))
    go false h = refl

-- a number, and a flag
pub takes_take : (name w v : ℕ) → v < 2 ^ w → Takes (take name w) (bits_of w v) 1 v
unfolding take position bits field ◌>>=◌ reading
takes_take name w v l =
    record {
      takes = λ i p e n h g.
          let long = length_bits_of w v in
          let value : bits_at i.bytes p w ≡ v = bits_at_from i.bytes p w v (rw long at (from_holds i.bytes p (bits_of w v) h)) l in
          let there : w ≤ e - p = omega (arith, g.bits_left) in
          let counted : n < 16384 = omega (arith, g.few) in
          rw (le-ltb _ _ there, lt-ltb _ _ counted, has_words i _ p e n g, value) (record { result = refl; position = omega arith; end = refl; fields = omega arith });
    }

pub takes_flag : (name b : ℕ) → b < 2 → Takes (flag name) (b ∷ []) 1 (is_one b)
unfolding flag position bits field ◌>>=◌ reading Holds bits_at
takes_flag name b l =
    record {
      takes = λ i p e n h g.
          let value : 0 * 2 + bit_at i.bytes (p + 0) ≡ b = let here : p + 0 ≡ p = omega arith in rw (here, h.0) (omega arith) in
          let there : 1 ≤ e - p = omega (arith, g.bits_left) in
          let counted : n < 16384 = omega (arith, g.few) in
          rw (le-ltb _ _ there, lt-ltb _ _ counted, has_words i _ p e n g, value) (record { result = refl; position = omega arith; end = refl; fields = omega arith });
    }

-- fewer fields are at most so many
pub takes_more : {A : Type 0} {r : Rule A} {bs : List ℕ} {k : ℕ} {a : A} (m : ℕ) → k ≤ m → Takes r bs k a → Takes r bs m a
takes_more m l t =
    record {
      takes = λ i p e n h g.
          let x = t.takes i p e n h (record { bits_left = g.bits_left; few = omega (arith, g.few); words = λ q. omega (arith, g.words q) }) in
          record { result = x.result; position = x.position; end = x.end; fields = omega (arith, x.fields) };
    }

-- a rule after which no more bits are read
pub takes_last : {A B : Type 0} {r : Rule A} (f : A → Rule B) {bs : List ℕ} {k : ℕ} {a : A} {b : B} → Takes r bs k a → Takes (f a) [] 0 b → Takes (r >>= f) bs k b
takes_last {A} {B} {r} f {bs} {k} {a} {b} t u =
    let all : Takes (r >>= f) (bs ++ []) (k + 0) b = takes_bind f t u in
    takes_more k (omega arith) (rw append-nil at all)
