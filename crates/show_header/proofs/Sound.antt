-- A sound header: the computed test says the same, and every part lies within the file.
use Prim.Native.Nat.{ℕ, zero, suc, ◌+◌, ◌-◌, ◌*◌, ◌<◌, ◌≤◌}
use mathlib.Core.Path.{◌≡◌, refl}
use mathlib.Core.List.{List}
use mathlib.Core.Bool.{Bool, true, false}
use mathlib.Core.Logic.{◌↔◌}
use native.Mathlib.Omega.{arith}
use borrow.Author.Tests.{ltb-true, ltb-false, leb-true, eqb-true, lt-ltb, le-ltb, le-leb, lt-leb, eq-eqb, ne_eqb}
use lib.Dec.{ltb, leb, eqb}
use lib.ListN.{length, take, drop, length-take, length-drop}
use Rattle.rules.specs.Rule.{pick}
use Rattle.rules.proofs.Pick.{by_pick}
use Rattle.rules.proofs.Laws.{both}
use Rattle.show_header.specs.Header.{part_count, offset_of, header_length, HeaderSound, end_of, part_of, in_order, is_sound, file_question}

module _ (file : List ℕ) where
  -- where part k ends, if another follows, and if none does
  pub end_next : (k : ℕ) → k + 1 < part_count file → end_of file k ≡ offset_of file (k + 1)
  unfolding end_of
  end_next k h = rw (lt-ltb (k + 1) (part_count file) h)

  pub end_last : (k : ℕ) → part_count file ≤ k + 1 → end_of file k ≡ length file
  unfolding end_of
  end_last k h = rw (le-ltb (k + 1) (part_count file) h)

  -- Part k begins before it ends, and ends within the file: it is a part of the file's bytes.
  module _ (s : HeaderSound file) (k : ℕ) (h : k < part_count file) {start end : ℕ} (p : start ≡ offset_of file k) (q : end ≡ end_of file k) where
    pub part_start : start ≤ end
    unfolding end_of
    part_start =
        rw (p, q)
        (by_pick (λ e. offset_of file k ≤ e) (ltb (k + 1) (part_count file)) _ _
        (λ t. s.rising k (ltb-true _ _ t))
        (λ _. s.inside k h))

    pub part_end : end ≤ length file
    unfolding end_of
    part_end =
        rw q
        (by_pick (λ e. e ≤ length file) (ltb (k + 1) (part_count file)) _ _
        (λ t. s.inside (k + 1) (ltb-true _ _ t))
        (λ _. omega arith))

    pub part_is : take (end - start) (drop start file) ≡ part_of file k
    unfolding part_of
    part_is = rw (p, q)

  -- all of the header is there
  pub header_whole : HeaderSound file → header_length file ≤ length file
  header_whole s = rw (← s.first) (s.inside 0 s.some)

  -- what the test of n parts from k on says, and what makes it true
  each_in_order : (n k : ℕ) → in_order file n k ≡ true → (j : ℕ) → k ≤ j → j < k + n → offset_of file j ≤ end_of file j
  unfolding in_order
  each_in_order zero k t j from to = absurd (omega arith)
  each_in_order (suc n) k t j from to =
      let all = both (leb (offset_of file k) (end_of file k)) t in
      by (ltb k j) refl (leb-true _ _ all.0) (λ later. each_in_order n (k + 1) all.1 j later (omega arith))
    where
      by : (b : Bool) → ltb k j ≡ b → offset_of file k ≤ end_of file k → (k + 1 ≤ j → offset_of file j ≤ end_of file j) → offset_of file j ≤ end_of file j
      by true e here next = next (omega (arith, ltb-true k j e))
      by false e here next = let same : j ≡ k = omega (arith, ltb-false k j e) in rw same here

  all_in_order : (n k : ℕ) → ((j : ℕ) → k ≤ j → j < k + n → offset_of file j ≤ end_of file j) → in_order file n k ≡ true
  unfolding in_order
  all_in_order zero k h = refl
  all_in_order (suc n) k h =
      rw (le-leb _ _ (h k (omega arith) (omega arith))) (all_in_order n (k + 1) (λ j from to. h j (omega arith) (omega arith)))

  -- one part of those that are tested is in order, or is not
  module _ (n k : ℕ) (h : k < n) {start end : ℕ} (p : start ≡ offset_of file k) (q : end ≡ end_of file k) where
    pub in_order_more : start ≤ end → in_order file (n - (k + 1)) (k + 1) ≡ in_order file (n - k) k
    unfolding in_order
    in_order_more l = let e : n - k ≡ suc (n - (k + 1)) = omega arith in rw (e, ← p, ← q, le-leb start end l)

    pub in_order_broken : end < start → in_order file (n - k) k ≡ false
    unfolding in_order
    in_order_broken l = let e : n - k ≡ suc (n - (k + 1)) = omega arith in rw (e, ← p, ← q, lt-leb start end l)

  pub in_order_end : (n k : ℕ) → n ≤ k → in_order file (n - k) k ≡ true
  unfolding in_order
  in_order_end n k h = let e : n - k ≡ 0 = omega arith in rw e

  -- too few parts, and too many
  pub no_parts : {n : ℕ} → n ≡ part_count file → n < 1 → is_sound file ≡ false
  unfolding is_sound
  no_parts {n} p h = rw (← p, lt-leb 1 n h)

  pub too_many : {n : ℕ} → n ≡ part_count file → 1 ≤ n → 256 < n → is_sound file ≡ false
  unfolding is_sound
  too_many {n} p h l = rw (← p, le-leb 1 n h, lt-leb n 256 l)

  -- the tests of the first offset and of the order are left, if the number of parts is as it should be
  module _ {n start : ℕ} (p : n ≡ part_count file) (q : start ≡ offset_of file 0) (some : 1 ≤ n) (most : n ≤ 256) where
    pub first_broken : (start ≡ 2 + 4 * n → ⊥) → is_sound file ≡ false
    unfolding is_sound
    first_broken h = rw (← p, ← q, le-leb 1 n some, le-leb n 256 most, ne_eqb start (2 + 4 * n) h)

    pub first_kept : start ≡ 2 + 4 * n → is_sound file ≡ in_order file n 0
    unfolding is_sound
    first_kept h = rw (← p, ← q, le-leb 1 n some, le-leb n 256 most, eq-eqb start (2 + 4 * n) h)

  -- The test is true exactly if the header is sound.
  tests : is_sound file ≡ true →
      (1 ≤ part_count file) × (part_count file ≤ 256) × (offset_of file 0 ≡ header_length file) × (in_order file (part_count file) 0 ≡ true)
  unfolding is_sound
  tests t =
      let some = both (leb 1 (part_count file)) t in
      let most = both (leb (part_count file) 256) some.1 in
      let first = both (eqb (offset_of file 0) (header_length file)) most.1 in
      (leb-true _ _ some.0, leb-true _ _ most.0, eqb-true _ _ first.0, first.1)

  module _ (t : is_sound file ≡ true) where
    order : (k : ℕ) → k < part_count file → offset_of file k ≤ end_of file k
    order k h = each_in_order (part_count file) 0 (tests t).3 k (omega arith) (omega arith)

    rises : (k : ℕ) → k + 1 < part_count file → offset_of file k ≤ offset_of file (k + 1)
    rises k h = rw (← end_next k h) (order k (omega arith))

    -- n parts follow part k
    within : (n k : ℕ) → k + 1 + n ≡ part_count file → offset_of file k ≤ length file
    within zero k h = rw (← end_last k (omega arith)) (order k (omega arith))
    within (suc n) k h = let next = within n (k + 1) (omega arith) in let here = rises k (omega arith) in omega arith

    pub sound_if : HeaderSound file
    sound_if = record {
      some = (tests t).0;
      most = (tests t).1;
      first = (tests t).2;
      rising = rises;
      inside = λ k h. within (part_count file - (k + 1)) k (omega arith);
    }

  only_if : HeaderSound file → is_sound file ≡ true
  unfolding is_sound
  only_if s =
      let order = all_in_order (part_count file) 0 (λ j from to. part_start s j (omega arith) refl refl) in
      rw (le-leb _ _ s.some, le-leb _ _ s.most, eq-eqb _ _ s.first) order

  pub sound : (is_sound file ≡ true) ↔ HeaderSound file
  sound = (sound_if, only_if)

  -- Questions 23 and 24: asked in this order, and met only by a file of at most 65,536 bytes with a sound header.
  pub too_long : 65536 < length file → file_question file ≡ 23
  unfolding file_question
  too_long h = rw (lt-leb (length file) 65536 h)

  pub not_too_long : length file ≤ 65536 → {b : Bool} → b ≡ is_sound file → file_question file ≡ pick b 0 24
  unfolding file_question
  not_too_long h e = rw (le-leb (length file) 65536 h, e)

  pub question_met : file_question file ≡ 0 → is_sound file ≡ true
  unfolding file_question
  question_met = by (leb (length file) 65536) (is_sound file)
    where
      by : (a b : Bool) → ◌≡◌ {A = ℕ} (pick a (pick b 0 24) 23) 0 → b ≡ true
      by true true e = refl
      by true false e = absurd (omega arith)
      by false b e = absurd (omega arith)

-- A part is no longer than the file.
pub part_few : (file : List ℕ) (k : ℕ) → length file ≤ 65536 → length (part_of file k) ≤ 65536
unfolding part_of
part_few file k few =
    let rest = length-drop (offset_of file k) file in
    let some = length-take (end_of file k - offset_of file k) (drop (offset_of file k) file) in
    omega (arith, few, rest, some)
