use Rattle.std.proofs.Common.{rules}
use Rattle.record.proofs.Head.outcome.Goals as goal

pub returns-in-1-default : goal.returns-in-1-default
returns-in-1-default c = search rules
