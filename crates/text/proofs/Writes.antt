-- Texts written one after the other.
use Prim.Native.Nat.{ℕ, ◌+◌, ◌/◌, ◌%◌, ◌^◌, ◌≤◌, ◌<◌}
use mathlib.Core.Path.{◌≡◌, refl, sym, ap, ◌∙◌}
use mathlib.Core.List.{List, [], ◌∷◌, ◌++◌}
use native.Mathlib.Omega.{arith}
use native.Mathlib.Numerals.{add-one}
use borrow.Author.Tests.{lt-ltb, le-ltb}
use lib.ListN.{length, get_or, set, drop}
use lib.Seq.{drop-cons}
use Rattle.std.specs.Borrow.{MutBor}
use Rattle.text.specs.declared.Writer.{Writer}
use Rattle.text.specs.Writer.{Fits, Wrote, Lent}
use Rattle.text.specs.Text.{digit, decimal, Put, Lined}
use Rattle.text.proofs.Decimal.{tens, decimal_last}
use Rattle.text.proofs.Puts.{put_both, put_none, room_first, room_next}
use Rattle.text.proofs.Lines.{lined}

module _ {p q : Writer} where
  -- where there is room for two texts, there is for the second after the first
  pub fits_next : (a b : List ℕ) → Wrote a p q → Fits (a ++ b) p → Fits b q
  fits_next a b x h = room_next a b x.put h

  -- and if it is two again, for the first of these
  pub fits_middle : (a b c : List ℕ) → Wrote a p q → Fits (a ++ (b ++ c)) p → Fits b q
  fits_middle a b c x h = room_first q.written b c (fits_next a (b ++ c) x h)

  -- two texts are one
  pub wrote_both : {a b : List ℕ} {u : Writer} → Wrote a p q → Wrote b q u → Wrote (a ++ b) p u
  wrote_both x y = record { lent = y.lent ∙ x.lent; put = put_both x.put y.put }

  -- a text that is none
  pub wrote_none : q ≡ p → Wrote [] p q
  wrote_none e = rw e (record { lent = refl; put = put_none })

-- texts written one after the other, and the room for each
pub ruleset writes = (wrote_both, room_first, fits_next, fits_middle)

-- What is still to be written, in a loop: there is room for it, and with it the whole text is written.
pub record Left (whole : List ℕ) (p : Writer) (rest : List ℕ) (q : Writer) : Type 0 where
  pub fits : Fits rest q
  pub then : {u : Writer} → Wrote rest q u → Wrote whole p u

pub all_left : {whole : List ℕ} {p : Writer} → Fits whole p → Left whole p whole p
all_left h = record { fits = h; then = λ x. x }

module _ {whole : List ℕ} {p q : Writer} where
  pub less_left : (a rest : List ℕ) {u : Writer} → Left whole p (a ++ rest) q → Wrote a q u → Left whole p rest u
  less_left a rest l x = record { fits = fits_next a rest x l.fits; then = λ y. l.then (wrote_both x y) }

  -- nothing more is to be written
  pub none_left : Left whole p [] q → Wrote whole p q
  none_left l = l.then (wrote_none refl)

  -- the next byte: there is room for it, and it is put
  module _ (l : List ℕ) (k : ℕ) (x : Left whole p (drop k l) q) (h : k < length l) where
    byte_here : drop k l ≡ (get_or l k 0 ∷ []) ++ drop (k + 1) l
    byte_here = drop-cons l k 0 h ∙ ap (λ (n : ℕ). get_or l k 0 ∷ drop n l) (sym (add-one k))

    pub byte_fits : Fits (get_or l k 0 ∷ []) q
    byte_fits = room_first q.written (get_or l k 0 ∷ []) (drop (k + 1) l) (rw byte_here at x.fits)

    pub byte_left : {u : Writer} → Wrote (get_or l k 0 ∷ []) q u → Left whole p (drop (k + 1) l) u
    byte_left y = less_left (get_or l k 0 ∷ []) (drop (k + 1) l) (rw byte_here at x) y

-- A number: what stands before its last digit.
module _ (n : ℕ) {p q : Writer} where
  pub few_tens : n < 10 → q ≡ p → Wrote (tens n) p q
  few_tens h e = rw (lt-ltb n 10 h) (wrote_none e)

  pub more_tens : {u : Writer} → 10 ≤ n → Wrote (decimal (n / 10)) p u → q ≡ u → Wrote (tens n) p q
  more_tens h x e = rw (le-ltb n 10 h, e) x

-- The same of bytes without a writer, and the last digit, for which there is room.
module _ (n : ℕ) {before : List ℕ} {at to : ℕ} {after : List ℕ} where
  pub put_few_tens : n < 10 → to ≡ at → after ≡ before → Put before at (tens n) to after
  put_few_tens h e f = rw (lt-ltb n 10 h, e, f) put_none

  pub put_more_tens : {r : ℕ} {l : List ℕ} → 10 ≤ n → Put before at (decimal (n / 10)) r l → to ≡ r → after ≡ l → Put before at (tens n) to after
  put_more_tens h p e f = rw (le-ltb n 10 h, e, f) p

  module _ (fits : n < 2 ^ 64) (p : Put before at (tens n) to after) where
    pub digit_room : at + length (decimal n) ≤ length before → to < length after
    digit_room h = let e = room_next (tens n) (digit (n % 10) ∷ []) p (rw (decimal_last n fits) at h) in omega (arith, e)

    pub digit_last : Put before at (decimal n) (to + 1) (set after to (digit (n % 10)))
    digit_last = rw (decimal_last n fits) (put_both p (record { place = refl; bytes = refl }))

-- From the lent bytes: there is room for a text that is no longer than they are, and it is put at their beginning.
module _ {out : MutBor (List ℕ)} {p : Writer} (l : Lent out p) where
  pub lent_fits : (text : List ℕ) → length text ≤ length out.now → Fits text p
  lent_fits text h = let e = ap length l.bytes in let f = l.written in omega arith

  module _ {text : List ℕ} {q : Writer} (x : Wrote text p q) where
    pub lent_put : Put out.now 0 text q.written q.out.now
    lent_put = rw (l.bytes, l.written) at x.put

    pub lent_lined : length text ≤ 256 → length out.now ≡ 256 → Lined out.now text q.written q.out.now
    lent_lined most long = lined most long lent_put
