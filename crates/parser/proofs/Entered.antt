-- An entry whose own question refuses goes as `entry` says, and one that was not refused met its own question.
use Prim.Native.Nat.{ℕ}
use mathlib.Core.Path.{◌≡◌, refl, ap}
use mathlib.Core.Bool.{Bool, true, false}
use borrow.Author.Tests.{eqb-true}
use lib.Dec.{eqb, leb}
use Rattle.std.specs.Prelude as std
use Rattle.std.specs.Prelude.{Ok, Err}
use Rattle.rules.specs.declared.reason.Reason.{Reason}
use Rattle.rules.specs.Rule.{End, ◌>>=◌}
use Rattle.rules.proofs.Numbered.{numbered}
use Rattle.rules.specs.Reading.{Result, read, ended, reading}
use Rattle.rules.specs.Derived.{demand, entry}
use Rattle.rules.proofs.Laws.{never}
use Rattle.parser.specs.declared.Parser.{Parser}
use Rattle.parser.specs.Met.{Met}
use Rattle.rules.specs.Reason.{IsRefusal, asked}
use Rattle.parser.specs.Begun.{own_question, entered}

abbrev is_ended : {A : Type 0} → Result A → Bool
is_ended (read a) = false
is_ended (ended x) = true

not_read : {P A : Type 0} {a : A} {x : End} → ended x ≡ read a → P
not_read e = never refl (ap is_ended e)

module _ (size own offset : ℕ) {p q : Parser} {x : std.Result (Unit {0}) Reason} where
  pub own_met : Met (entry size own offset) p x q → x ≡ Ok tt → own ≡ 0
  unfolding entry demand ◌>>=◌ reading
  own_met m d = go (leb size 8388608) (eqb own 0) refl refl
    where
      go : (b c : Bool) → leb size 8388608 ≡ b → eqb own 0 ≡ c → own ≡ 0
      go b true e f = eqb-true _ _ f
      go true false e f = not_read (rw (d, e, f) at m.gives.result)
      go false false e f = not_read (rw (d, e) at m.gives.result)

entered_as : (size : ℕ) (own : std.Result (Unit {0}) Reason) (offset : ℕ) → IsRefusal own → entered size own offset ≡ entry size (asked own) offset
unfolding entered own_question entry demand
entered_as size (Ok u) offset h = refl
entered_as size (Err e) offset h = rw (h, numbered e)

-- so code over a parser goes as `entry` says
pub as_entry : (size : ℕ) (own : std.Result (Unit {0}) Reason) (offset : ℕ) {p q : Parser} {x : std.Result (Unit {0}) Reason} → IsRefusal own →
    Met (entered size own offset) p x q → Met (entry size (asked own) offset) p x q
as_entry size own offset h m = rw (entered_as size own offset h) at m
