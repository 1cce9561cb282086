-- Law (c): the words are the entry's words with the encoded fields in front.
use Prim.Native.Nat.{ℕ, ◌+◌, ◌*◌, ◌≤◌}
use mathlib.Core.Path.{◌≡◌}
use mathlib.Core.List.{List, ◌++◌}
use mathlib.Core.Bool.{true}
use native.Mathlib.Omega.{arith}
use borrow.Author.Tests.{leb-true}
use lib.ListN.{length, take, drop}
use lib.Seq.{sets-eq}
use Rattle.rules.specs.declared.Field.{Field}
use Rattle.rules.specs.Rule.{Rule}
use Rattle.rules.specs.Reading.{reading}
use Rattle.rules.specs.Words.{encoded, recorded}
use Rattle.rules.specs.Answer.{input_of, entry_then, entry_reading}
use Rattle.rules.proofs.Words.{encoded_length}
use Rattle.laws.proofs.Counted.{counted}
use Rattle.laws.proofs.Free.{on}

-- what was counted before and is recorded now fits in the words
pub fits : {A : Type 0} (bs : List ℕ) (room : ℕ) (r : Rule A) (p e n : ℕ) → 5 * n ≤ room → 5 * (n + length (reading (on bs room) r p e n).fields) ≤ room
fits bs room r p e n h = counted (on bs room) (λ n. 5 * n ≤ room) (λ n _ q. omega (arith, leb-true (5 * n + 5) room q)) r p e n h

-- so the fields of a whole call do
pub entry_fits : {A : Type 0} (bs ws : List ℕ) (own offset : ℕ) (r : Rule A) → 5 * length (entry_reading (input_of bs true ws) own offset r).fields ≤ length ws
entry_fits bs ws own offset r = omega (arith, fits bs (length ws) (entry_then (length bs) own offset r) 0 0 0 (omega arith))

pub recorded_front : (ws : List ℕ) (n : ℕ) (fs : List Field) → 5 * (n + length fs) ≤ length ws →
    recorded true ws n fs ≡ take (5 * n) ws ++ encoded fs ++ drop (5 * (n + length fs)) ws
unfolding recorded
recorded_front ws n fs h =
    let e : 5 * n + length (encoded fs) ≡ 5 * (n + length fs) = omega (arith, encoded_length fs) in
    let l : 5 * n + length (encoded fs) ≤ length ws = omega arith in
    rw (← e) (sets-eq (encoded fs) ws (5 * n) l)

-- of a reading from no fields on
pub words_front : {A : Type 0} (bs ws : List ℕ) (r : Rule A) (p e : ℕ) →
    recorded true ws 0 (reading (on bs (length ws)) r p e 0).fields
    ≡ encoded (reading (on bs (length ws)) r p e 0).fields ++ drop (5 * length (reading (on bs (length ws)) r p e 0).fields) ws
words_front bs ws r p e =
    let x = reading (on bs (length ws)) r p e 0 in
    let z : 0 + length x.fields ≡ length x.fields = omega arith in
    rw z at (recorded_front ws 0 x.fields (fits bs (length ws) r p e 0 (omega arith)))
