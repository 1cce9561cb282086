use mathlib.Core.Path.{refl}
use Rattle.name_row.specs.Row.{stands_in}
use Rattle.name_row.proofs.stands_in.Goals as goal

pub returns : goal.returns
unfolding stands_in
returns c = refl
