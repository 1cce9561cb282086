use Rattle.std.proofs.Common.{rules}
use Rattle.record.proofs.KindTryFromU64.try_from.Goals as goal

pub returns-in-2 : goal.returns-in-2
returns-in-2 c = search rules
