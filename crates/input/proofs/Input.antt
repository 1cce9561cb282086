-- What was read stands after what was read before.
use Prim.Native.Nat.{ℕ, ◌+◌, ◌≤◌}
use mathlib.Core.Path.{◌≡◌, sym, ap, subst, ◌∙◌}
use mathlib.Core.List.{List, ◌++◌}
use lib.ListN.{length, take}
use lib.Seq.{take-add, take-append-le}
use borrow.Rule.Slice.PartMut.{put_mid, post_of}
use Rattle.std.specs.Prelude.{Option}
use Rattle.std.specs.Io.KnownBytes.{Consumes}
use Rattle.std.proofs.Common.{drop_at, length-take-le, le_refl}
use Rattle.std.proofs.lemmas.Slice.{take-put_mid_below}
use Rattle.std.proofs.KnownBytes.{Consumes-trans}

module _ (from n : ℕ) (bytes part : List ℕ) (within : from ≤ length bytes) (fits : n ≤ length part) where
  abbrev after : ℕ → List ℕ
  after room = put_mid from room bytes part

  -- the part of a list, put over its places from one on, stands after those before
  taken : (room : ℕ) → take from bytes ++ take n part ≡ take (from + n) (after room)
  taken room =
      let front : take from (after room) ≡ take from bytes = take-put_mid_below _ _ _ _ _ (le_refl _) within in
      let rest = drop_at (take from bytes) (part ++ post_of from room bytes) from (length-take-le from bytes within) in
      ap (λ l. l ++ take n part) (sym front)
      ∙ ap (λ l. take from (after room) ++ l) (sym (ap (take n) rest ∙ take-append-le n part (post_of from room bytes) fits))
      ∙ sym (take-add from n (after room))

  -- two reads, one after the other, are one
  pub read_on : (a b c : Option (List ℕ)) (room : ℕ) → Consumes a b (take from bytes) → Consumes b c (take n part) → Consumes a c (take (from + n) (put_mid from room bytes part))
  read_on a b c room first second = subst (Consumes a c) (taken room) (Consumes-trans a b c _ _ first second)
