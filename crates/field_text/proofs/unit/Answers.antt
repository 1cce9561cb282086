use mathlib.Core.Path.{refl}
use mathlib.Core.Logic.{⊎_elim}
use Rattle.text.specs.Text.{ascii}
use Rattle.field_text.proofs.unit.Goals as goal

pub returns-in-Flag : goal.returns-in-Flag
unfolding ascii
returns-in-Flag c = ⊎_elim (λ w. rw w.1 refl) (λ w. rw w.1 refl) c.in-Flag.is

pub returns-in-Bits : goal.returns-in-Bits
unfolding ascii
returns-in-Bits c = rw c.in-Bits.is refl

pub returns-in-Bytes : goal.returns-in-Bytes
unfolding ascii
returns-in-Bytes c = rw c.in-Bytes.is refl
