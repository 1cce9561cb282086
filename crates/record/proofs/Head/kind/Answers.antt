use Rattle.std.proofs.Common.{rules}
use Rattle.record.proofs.Head.kind.Goals as goal

pub returns : goal.returns
returns c = search rules
