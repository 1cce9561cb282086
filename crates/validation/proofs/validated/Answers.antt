use mathlib.Core.Path.{ap, ◌∙◌}
use native.Mathlib.Omega.{arith}
use lib.ListN.{length, length-map}
use Rattle.ranks.proofs.Walks.{none_known}
use Rattle.validation.proofs.validated.Goals as goal

pub judge-requires : goal.judge-requires
judge-requires c = none_known _ _ 63 (ap length c.parents_of.ensures ∙ length-map _ _) c.requires (omega arith)
