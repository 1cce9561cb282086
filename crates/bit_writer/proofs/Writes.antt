-- Bits written one after another: those that wait, a byte made of them, and the last byte.
use Prim.Native.Nat.{ℕ, ◌+◌, ◌-◌, ◌*◌, ◌/◌, ◌%◌, ◌^◌, ◌<◌, ◌≤◌}
use mathlib.Core.Path.{◌≡◌, refl, sym, ap, ap₂, ◌∙◌}
use mathlib.Core.List.{List, [], ◌++◌, append-nil, append_assoc}
use native.Mathlib.Nat.{add-zero, mod-lt}
use native.Mathlib.Omega.{arith}
use lib.Bits.{bit_or, bit_and, or_shifted, and_mask}
use lib.ListN.{length, length-append, length-set, set, take, drop}
use lib.Pow.{pow-add, pow_pos, shl_exact, shl_lt, shr_lt}
use lib.Seq.{drop-set-lt, drop-drop, take_at}
use Rattle.std.proofs.lemmas.Nat.{mul-add-lt}
use Rattle.bits.proofs.Laws.{one_shifted}
use Rattle.std.specs.Borrow.{MutBor}
use Rattle.bit_writer.specs.declared.BitWriter.{BitWriter}
use Rattle.bit_writer.specs.Bits.{bits_of, bits_from, zeros, bytes_for, Stand}
use Rattle.bit_writer.specs.Writer.{Lent, written, Fits, Wrote, Finished}
use Rattle.bit_writer.proofs.Laws.{length_bits_of, length_bits_from, bits_from_both, bits_of_both, bits_of_low, bits_of_joined, bits_of_zero, bits_before_set, bits_set}

-- a number shifted in behind the bits that wait
pub joined : (a b x y : ℕ) → x < 2 ^ a → y < 2 ^ b → a + b ≤ 64 → bit_or ((x * 2 ^ b) % 2 ^ 64) y ≡ x * 2 ^ b + y
joined a b x y h k l = rw (shl_exact a b 64 h l) (or_shifted x b y k)

pub joined_small : (a b x y : ℕ) → x < 2 ^ a → y < 2 ^ b → x * 2 ^ b + y < 2 ^ (a + b)
joined_small a b x y h k = rw pow-add (omega (arith, mul-add-lt x (2 ^ b) y (2 ^ a) h k))

-- the low bits of a word
pub low_bits : (w k : ℕ) → k < 64 → bit_and w ((1 * 2 ^ k) % 2 ^ 64 - 1) ≡ w % 2 ^ k
low_bits w k h = rw (one_shifted k h) (and_mask w k)

-- a byte made of the first eight bits that wait
pub byte_made : (bytes : List ℕ) (full w held : ℕ) → full < length bytes → w < 2 ^ (8 + held) →
    bits_from (set bytes full (w / 2 ^ held)) 0 (8 * (full + 1)) ++ bits_of held (w % 2 ^ held)
    ≡ bits_from bytes 0 (8 * full) ++ bits_of (8 + held) w
byte_made bytes full w held h small =
    let byte = w / 2 ^ held in
    let more : 8 * (full + 1) ≡ 8 * full + 8 = omega arith in
    let there : 0 + 8 * full ≡ 8 * full = omega arith in
    let own = bits_set bytes full byte h (shr_lt 8 held small) in
    rw (
      more,
      bits_from_both (set bytes full byte) 0 (8 * full) 8,
      there,
      bits_before_set bytes full byte 0 (8 * full) (omega arith),
      own,
      bits_of_low held held w (omega arith),
      bits_of_both 8 held w,
    )
    (append_assoc (bits_from bytes 0 (8 * full)) (bits_of 8 byte) (bits_of held w))

-- the last byte: the bits that wait, and zeros after them
pub last_byte : (bytes : List ℕ) (full w held : ℕ) → full < length bytes → held ≤ 8 → w < 2 ^ held →
    bits_from (set bytes full (w * 2 ^ (8 - held))) 0 (8 * (full + 1))
    ≡ (bits_from bytes 0 (8 * full) ++ bits_of held w) ++ zeros (8 - held)
last_byte bytes full w held h few small =
    let byte = w * 2 ^ (8 - held) in
    let more : 8 * (full + 1) ≡ 8 * full + 8 = omega arith in
    let there : 0 + 8 * full ≡ 8 * full = omega arith in
    let eight : held + (8 - held) ≡ 8 = omega arith in
    let own = bits_set bytes full byte h (rw eight at (shl_lt held (8 - held) small)) in
    let apart = rw (eight, add-zero, bits_of_zero) at (bits_of_joined held (8 - held) w 0 (pow_pos (8 - held))) in
    let front = bits_before_set bytes full byte 0 (8 * full) (omega arith) in
    rw (more, bits_from_both (set bytes full byte) 0 (8 * full) 8, there, front, own, apart)
    (sym (append_assoc (bits_from bytes 0 (8 * full)) (bits_of held w) (zeros (8 - held))))

-- what is left after more elements
drop_more : (a b : List ℕ) (m n : ℕ) → m ≤ n → drop m a ≡ drop m b → drop n a ≡ drop n b
drop_more a b m n h e =
    let at : m + (n - m) ≡ n = omega arith in
    sym (rw at at (drop-drop (n - m) m a)) ∙ ap (drop (n - m)) e ∙ rw at at (drop-drop (n - m) m b)

-- What is written within a call, with the bits that wait beside the writer: there is room for these.
pub record Moved (bits : List ℕ) (p q : BitWriter) (waiting held : ℕ) : Type 0 where
  pub lent : q.bytes.ghost_name ≡ p.bytes.ghost_name
  pub long : length q.bytes.now ≡ length p.bytes.now
  pub written : bits_from q.bytes.now 0 (8 * q.full) ++ bits_of held waiting ≡ written p ++ bits
  pub forward : p.full ≤ q.full
  pub others : drop q.full q.bytes.now ≡ drop q.full p.bytes.now
  pub few : held < 64
  pub small : waiting < 2 ^ held
  pub room : 8 * q.full + held ≤ 8 * length q.bytes.now

-- a number behind the bits that wait
pub moved_none : (p : BitWriter) (width value : ℕ) → width ≤ 56 → value < 2 ^ width → Fits width p →
    Moved (bits_of width value) p p (bit_or ((p.waiting * 2 ^ width) % 2 ^ 64) value) (p.held + width)
moved_none p width value narrow small fits =
    let few = p.held_few in
    rw (joined p.held width p.waiting value p.waiting_small small (omega arith))
    (record {
      lent = refl;
      long = refl;
      written = rw (bits_of_joined, append_assoc) refl;
      forward = omega arith;
      others = refl;
      few = omega arith;
      small = joined_small p.held width p.waiting value p.waiting_small small;
      room = omega arith;
    })

module _ {bits : List ℕ} {p q : BitWriter} {waiting held : ℕ} (m : Moved bits p q waiting held) where
  -- there is a byte for eight bits that wait
  pub byte_there : 8 ≤ held → q.full < length q.bytes.now
  byte_there h = omega (arith, m.room)

  -- one byte more
  pub moved_more : {u : BitWriter} {h : ℕ} → held ≡ 8 + h → u.bytes.ghost_name ≡ q.bytes.ghost_name →
      u.bytes.now ≡ set q.bytes.now q.full (waiting / 2 ^ h) → u.full ≡ q.full + 1 →
      Moved bits p u (bit_and waiting ((1 * 2 ^ h) % 2 ^ 64 - 1)) h
  moved_more {u} {h} e name bytes full =
      let eight : 8 ≤ held = omega arith in
      let long : length u.bytes.now ≡ length q.bytes.now = ap length bytes ∙ length-set q.bytes.now q.full (waiting / 2 ^ h) in
      let after : q.full + 1 ≡ u.full = omega arith in
      rw (low_bits waiting h (omega (arith, m.few)))
      (record {
        lent = name ∙ m.lent;
        long = long ∙ m.long;
        written = rw (bytes, full) (byte_made q.bytes.now q.full waiting h (byte_there eight) (rw e at m.small)) ∙ rw e at m.written;
        forward = omega (arith, m.forward);
        others =
            rw (bytes, full) (drop-set-lt (q.full + 1) q.bytes.now q.full (waiting / 2 ^ h) (omega arith)
            ∙ drop_more q.bytes.now p.bytes.now q.full (q.full + 1) (omega arith) m.others);
        few = omega (arith, m.few);
        small = mod-lt waiting (pow_pos h);
        room = omega (arith, m.room);
      })

  -- the bits that still wait are fewer than eight
  pub wrote : {u : BitWriter} → u.bytes.ghost_name ≡ q.bytes.ghost_name → u.bytes.now ≡ q.bytes.now → u.full ≡ q.full →
      u.waiting ≡ waiting → u.held ≡ held → Wrote bits p u
  wrote {u} name bytes full w h = record {
    lent = name ∙ m.lent;
    long = ap length bytes ∙ m.long;
    written = rw (bytes, full, w, h) m.written;
    forward = omega (arith, m.forward);
    others = rw (bytes, full) m.others;
  }

-- how many bits are written
pub written_length : (p : BitWriter) → length (written p) ≡ 8 * p.full + p.held
written_length p =
    length-append (bits_from p.bytes.now 0 (8 * p.full)) (bits_of p.held p.waiting)
    ∙ ap₂ (λ (m n : ℕ). m + n) (length_bits_from p.bytes.now 0 (8 * p.full)) (length_bits_of p.held p.waiting)

-- the last byte is made, if any bits wait
pub finished : {p q : BitWriter} → 0 < p.held → Fits 0 p → q.bytes.ghost_name ≡ p.bytes.ghost_name →
    q.bytes.now ≡ set p.bytes.now p.full ((p.waiting * 2 ^ (8 - p.held)) % 2 ^ 64) →
    q.full ≡ p.full → q.waiting ≡ p.waiting → q.held ≡ p.held → Finished p q
finished {p} {q} some fits name bytes full waiting held =
    let few = p.held_few in
    let n = written_length p in
    let count : bytes_for (length (written p)) ≡ p.full + 1 = omega arith in
    let spare : 8 * (p.full + 1) - length (written p) ≡ 8 - p.held = omega arith in
    let byte = shl_exact p.held (8 - p.held) 64 p.waiting_small (omega arith) in
    let made = rw byte at bytes in
    let before = bits_before_set p.bytes.now p.full (p.waiting * 2 ^ (8 - p.held)) 0 (8 * p.full) (omega arith) in
    record {
      lent = name;
      stand = record {
        long = ap length made ∙ length-set p.bytes.now p.full (p.waiting * 2 ^ (8 - p.held));
        stand = rw (count, spare, made) (last_byte p.bytes.now p.full p.waiting p.held (omega arith) (omega arith) p.waiting_small);
        others = rw (count, made) (drop-set-lt (p.full + 1) p.bytes.now p.full (p.waiting * 2 ^ (8 - p.held)) (omega arith));
      };
      written = rw (made, full, waiting, held, before) refl;
    }

pub none_waits : (p : BitWriter) → p.held ≡ 0 → Finished p p
unfolding bits_of zeros
none_waits p none =
    let n = written_length p in
    let count : bytes_for (length (written p)) ≡ p.full = omega arith in
    let spare : 8 * p.full - length (written p) ≡ 0 = omega arith in
    record {
      lent = refl;
      stand = record { long = refl; stand = rw (count, spare, none) (simp append-nil); others = refl };
      written = refl;
    }

-- bits written after others: how many are written then, and both as one
module _ {p q : BitWriter} where
  more_length : (bits : List ℕ) → Wrote bits p q → 8 * q.full + q.held ≡ 8 * p.full + p.held + length bits
  more_length bits x =
      let before = written_length p in
      let after = written_length q in
      let both = ap length x.written ∙ length-append (written p) bits in
      omega arith

  pub fits_next : (a b : List ℕ) → Wrote a p q → Fits (length (a ++ b)) p → Fits (length b) q
  fits_next a b x h = let more = more_length a x in let both = length-append a b in omega (arith, x.long)

  -- and there is room for no more
  pub fits_none : (a : List ℕ) → Wrote a p q → Fits (length a) p → Fits 0 q
  fits_none a x h = let more = more_length a x in omega (arith, x.long)

  pub wrote_both : (a b : List ℕ) {u : BitWriter} → Wrote a p q → Wrote b q u → Wrote (a ++ b) p u
  wrote_both a b {u} x y =
      record {
        lent = y.lent ∙ x.lent;
        long = y.long ∙ x.long;
        written = y.written ∙ ap (λ (l : List ℕ). l ++ b) x.written ∙ append_assoc (written p) a b;
        forward = omega (arith, x.forward, y.forward);
        others = y.others ∙ drop_more q.bytes.now p.bytes.now q.full u.full y.forward x.others;
      }

pub wrote_none : (p : BitWriter) → Wrote [] p p
wrote_none p = record { lent = refl; long = refl; written = sym (append-nil (written p)); forward = omega arith; others = refl }

-- What is still to be written, in a loop: there is room for it, and with it all is written.
pub record Left (whole : List ℕ) (p : BitWriter) (rest : List ℕ) (q : BitWriter) : Type 0 where
  pub fits : Fits (length rest) q
  pub then : {u : BitWriter} → Wrote rest q u → Wrote whole p u

pub all_left : {whole : List ℕ} {p : BitWriter} → Fits (length whole) p → Left whole p whole p
all_left h = record { fits = h; then = λ x. x }

module _ {whole : List ℕ} {p q : BitWriter} where
  -- there is room for what comes next
  pub next_fits : (a rest : List ℕ) → Left whole p (a ++ rest) q → Fits (length a) q
  next_fits a rest l = let both = length-append a rest in omega (arith, l.fits)

  pub less_left : (a rest : List ℕ) {u : BitWriter} → Left whole p (a ++ rest) q → Wrote a q u → Left whole p rest u
  less_left a rest l x = record { fits = fits_next a rest x l.fits; then = λ y. l.then (wrote_both a rest x y) }

  -- nothing more is to be written
  pub none_left : Left whole p [] q → Wrote whole p q
  none_left l = l.then (wrote_none q)

-- From the lent bytes: there is room for as many bits as they have, and what is written stands in them.
module _ {out : MutBor (List ℕ)} {p : BitWriter} (l : Lent out p) where
  pub lent_fits : (n : ℕ) → n ≤ 8 * length out.now → Fits n p
  lent_fits n h =
      let none = sym (written_length p) ∙ ap length l.written in
      let many = ap length l.bytes in
      omega arith

  module _ {bits : List ℕ} {q u : BitWriter} (x : Wrote bits p q) (f : Finished q u) where
    lent_stand : Stand bits out.now u.bytes.now
    lent_stand =
        let all : written q ≡ bits = x.written ∙ ap (λ (k : List ℕ). k ++ bits) l.written in
        let n = written_length q in
        let few : q.full ≤ bytes_for (length (written q)) = omega arith in
        let others = drop_more q.bytes.now p.bytes.now q.full (bytes_for (length (written q))) few x.others in
        record {
          long = f.stand.long ∙ x.long ∙ ap length l.bytes;
          stand = rw all at f.stand.stand;
          others = rw all at (f.stand.others ∙ others) ∙ ap (drop (bytes_for (length bits))) l.bytes;
        }

    -- what the lender has back, which is what the writer leaves if it has its bytes still
    pub lent_back : {after : List ℕ} → (out.ghost_name ≡ u.bytes.ghost_name → after ≡ u.bytes.now) → Stand bits out.now after
    lent_back back = rw (back (sym (f.lent ∙ x.lent ∙ l.lent))) lent_stand

-- bits that stand in bytes are the first of these
pub stand_first : {bits before after : List ℕ} → Stand bits before after → bits_from after 0 (length bits) ≡ bits
stand_first {bits} {before} {after} s =
    let n = length bits in
    let spare : n + (8 * bytes_for n - n) ≡ 8 * bytes_for n = omega arith in
    let both = bits_from_both after 0 n (8 * bytes_for n - n) in
    let front = take_at (bits_from after 0 n) (bits_from after (0 + n) (8 * bytes_for n - n)) n (length_bits_from after 0 n) in
    sym front ∙ ap (take n) (sym (rw spare at both) ∙ s.stand) ∙ take_at bits (zeros (8 * bytes_for n - n)) n refl
