use Prim.Native.Nat.{ℕ, ◌<◌, ◌≤◌}
use mathlib.Core.Path.{◌≡◌, refl}
use mathlib.Core.Bool.{true, ◌||◌}
use mathlib.Core.Logic.{◌⊎◌, inl, inr}
use borrow.Author.Tests.{lt-ltb, le-ltb}
use lib.Dec.{ltb}
use Rattle.parser.proofs.Laws.{last}
use Rattle.parser.proofs.Steps.{ends_now}
use Rattle.lzw.specs.Lzw.{lzw_widths}
use Rattle.lzw.proofs.lzw_widths.Goals as goal

-- one of the widths is too great
too_wide : {initial maximum : ℕ} → (15 < initial) ⊎ ((initial ≤ 15) × (16 < maximum)) → (ltb 15 initial || ltb 16 maximum) ≡ true
too_wide (inl h) = rw (lt-ltb _ _ h) refl
too_wide (inr h) = rw (le-ltb _ _ h.0, lt-ltb _ _ h.1) refl

pub returns-then-initial-gt15 : goal.returns-then-initial-gt15
unfolding lzw_widths
returns-then-initial-gt15 c = rw (too_wide c.then-initial-gt15.either) (ends_now refl)

pub returns : goal.returns
unfolding lzw_widths
returns c = rw (le-ltb _ _ c.if-initial-gt15.false, le-ltb _ _ c.if-maximum-gt16.false) last
