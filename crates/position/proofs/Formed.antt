-- Question 2 of one shape.
use mathlib.Core.Path.{◌≡◌}
use mathlib.Core.Bool.{true}
use borrow.Author.Tests.{leb-true}
use lib.Dec.{leb}
use Rattle.rules.proofs.Laws.{both}
use Rattle.position.specs.declared.PositionSyntax.{PositionSyntax}
use Rattle.position.specs.Formed.{Shaped, is_shaped}

pub shaped_when : (sh : PositionSyntax) → is_shaped sh ≡ true → Shaped sh
shaped_when sh h =
    let narrow = both (leb sh.position_precision 24) h in
    record { position = leb-true _ _ narrow.0; rotation = leb-true _ _ narrow.1 }
