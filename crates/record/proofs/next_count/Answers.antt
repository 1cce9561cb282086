use Rattle.std.proofs.Common.{rules}
use Rattle.record.proofs.next_count.Goals as goal

pub returns : goal.returns
returns g c = search rules
