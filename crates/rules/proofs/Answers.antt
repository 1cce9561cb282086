-- What stands for the value of an answer, and an entry whose own question is not met.
use Prim.Native.Nat.{ℕ}
use mathlib.Core.Path.{◌≡◌, refl}
use mathlib.Core.Bool.{Bool, true, false}
use mathlib.Core.Logic.{◌≢◌}
use borrow.Author.Tests.{ne_eqb}
use lib.ListN.{length}
use lib.Dec.{leb}
use Rattle.rules.specs.Rule.{Rule, End, refused, stopped, ends, ◌>>=◌, pick}
use Rattle.rules.specs.Reading.{Result, read, ended, Input, reading, is_read}
use Rattle.rules.specs.Derived.{demand, entry}
use Rattle.rules.specs.Answer.{end_outcome, outcome_of, value_or, entry_then, entry_reading}
use Rattle.rules.proofs.Laws.{never}

-- what ended was not read
pub ended_unread : (x : End) → is_read (end_outcome x) ≡ false
ended_unread (refused n) = refl
ended_unread (stopped n) = refl

-- what stands for the value of a call that was not read, and that nothing stands for one that was
module _ {A : Type 0} (a : A) where
  pub value_unread : (x : Result A) → is_read (outcome_of x) ≡ false → value_or a x ≡ a
  value_unread (read b) h = never refl h
  value_unread (ended x) h = refl

  pub value_of_read : (b : A) (x : Result A) → is_read (outcome_of x) ≡ true → value_or a x ≡ value_or b x
  value_of_read b (read c) h = refl
  value_of_read b (ended x) h = never h (ended_unread x)

-- an entry whose own question is not met ends there, whatever was to come
module _ {A : Type 0} (size own offset : ℕ) (r : Rule A) (h : own ≢ 0) where
  abbrev at_question : Rule A
  at_question = ends (pick (leb size 8388608) (refused own) (refused 1))

  entry_ends : entry_then size own offset r ≡ at_question
  unfolding entry demand ◌>>=◌
  entry_ends = go (leb size 8388608) refl
    where
      go : (b : Bool) → leb size 8388608 ≡ b → entry_then size own offset r ≡ at_question
      go true e = rw (e, ne_eqb own 0 h)
      go false e = rw e

-- so it is the same as with any other rule, and is not read
module _ {A : Type 0} (i : Input) (own offset : ℕ) (r : Rule A) (h : own ≢ 0) where
  pub entry_any : (q : Rule A) → entry_reading i own offset r ≡ entry_reading i own offset q
  entry_any q = rw (entry_ends (length i.bytes) own offset r h, entry_ends (length i.bytes) own offset q h)

  pub entry_unread : is_read (outcome_of (entry_reading i own offset r).result) ≡ false
  unfolding reading
  entry_unread = rw (entry_ends (length i.bytes) own offset r h) (ended_unread (pick (leb (length i.bytes) 8388608) (refused own) (refused 1)))
