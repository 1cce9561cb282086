-- A word that is known is never refused as unknown, however many bytes are lent; with 128 its text is always written.
use Prim.Native.Nat.{ℕ, ◌≤◌}
use mathlib.Core.Path.{◌≡◌}
use mathlib.Core.Bool.{Bool, true, false}
use native.Mathlib.Omega.{arith}
use borrow.Author.Tests.{le-leb}
use lib.Dec.{leb}
use lib.ListN.{length}
use Rattle.rules.specs.Rule.{pick}
use Rattle.name_words.specs.NameText.{name_text}
use Rattle.name_words.proofs.Lengths.{name_short, known_small}
use Rattle.names.specs.NameAnswer.{room_question, name_question}
use Rattle.known_names.specs.Known.{Known}

not_25 : (b : Bool) → pick {A = ℕ} b 0 26 ≡ 25 → ⊥
not_25 true e = omega arith
not_25 false e = omega arith

pub never_unknown : (w room : ℕ) → Known w → name_question w room ≡ 25 → ⊥
unfolding name_question room_question
never_unknown w room k e = not_25 (leb (length (name_text w)) room) (rw k.is_known at e)

pub always_written : (w room : ℕ) → Known w → 128 ≤ room → name_question w room ≡ 0
unfolding name_question room_question
always_written w room k h =
    rw (k.is_known, le-leb (length (name_text w)) room (omega (arith, name_short w (known_small w k.is_known))))
