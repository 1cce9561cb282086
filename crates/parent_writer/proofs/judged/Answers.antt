use mathlib.Core.Path.{refl}
use native.Mathlib.Omega.{arith}
use Rattle.ranks.proofs.Walks.{none_known}
use Rattle.parent_writer.proofs.judged.Goals as goal

pub judge-requires : goal.judge-requires
judge-requires c = none_known _ _ 63 refl c.requires (omega arith)
