-- What is lent, blanked place by place.
use Prim.Native.Nat.{ℕ, ◌+◌, ◌<◌}
use mathlib.Core.Path.{◌≡◌, sym, ◌∙◌}
use mathlib.Core.List.{List}
use native.Mathlib.Omega.{arith}
use lib.ListN.{length, take, set}
use Rattle.std.proofs.lemmas.List.{take_more_set}
use Rattle.std.proofs.lemmas.List.FromFn.{map-range_with_len_more}
use Rattle.recorded.specs.Recorded.{blanks}

-- one place more is blank
pub blank_more : {T : Type 0} (blank : ℕ → T) (lent : List T) (i : ℕ) (x : T) → i < length lent → take i lent ≡ blanks blank i → x ≡ blank i → take (i + 1) (set lent i x) ≡ blanks blank (i + 1)
blank_more blank lent i x h e f = take_more_set lent i x h ∙ rw (e, f) (sym (map-range_with_len_more blank 0 i i (omega arith)))
