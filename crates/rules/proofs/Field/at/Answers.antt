use Prim.Native.Nat.{ℕ, ◌+◌, ◌*◌, ◌<◌, ◌≤◌}
use mathlib.Core.Path.{◌≡◌}
use mathlib.Core.List.{List}
use mathlib.Core.Bool.{Bool, true, false}
use native.Mathlib.Omega.{arith}
use borrow.Author.Tests.{le-leb, lt-leb}
use lib.ListN.{length, get_or}
use Rattle.std.specs.Prelude.{Option, Some, None}
use Rattle.rules.specs.declared.Field.{Field}
use Rattle.rules.specs.declared.FieldValue.{FieldValue}
use Rattle.rules.specs.Rule.{pick}
use Rattle.rules.specs.Words.{field_at}
use Rattle.rules.proofs.Field.at.Goals as goal

-- the field whose first word is that of number `k`, with a value
abbrev holding : List ℕ → ℕ → FieldValue → Field
holding ws k v = record { bit_offset = get_or ws k 0; bit_length = get_or ws (k + 1) 0; value = v; name = get_or ws (k + 4) 0 }

abbrev held : List ℕ → ℕ → Option FieldValue → Option Field
held ws k (Some v) = Some (holding ws k v)
held ws k None = None

read_back : (ws : List ℕ) (k : ℕ) (b : Bool) (v : FieldValue) {x : Option FieldValue} → x ≡ pick b (Some v) None → held ws k x ≡ pick b (Some (holding ws k v)) None
read_back ws k true v e = rw e
read_back ws k false v e = rw e

pub returns-then-words-index : goal.returns-then-words-index
unfolding field_at
returns-then-words-index c =
    let a = c.args in
    let l : length a.words.now < 5 * a.index + 5 = omega arith in
    rw (lt-leb _ _ l)

pub returns-in-Some : goal.returns-in-Some
unfolding field_at
returns-in-Some c =
    let a = c.args in
    let l : 5 * a.index + 5 ≤ length a.words.now = omega arith in
    rw (le-leb _ _ l) (rw c.in-Some.is at (read_back a.words.now (5 * a.index) _ _ c.from_words.ensures))

pub returns-in-None : goal.returns-in-None
unfolding field_at
returns-in-None c =
    let a = c.args in
    let l : 5 * a.index + 5 ≤ length a.words.now = omega arith in
    rw (le-leb _ _ l) (rw c.in-None.is at (read_back a.words.now (5 * a.index) _ _ c.from_words.ensures))
