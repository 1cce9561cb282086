use Rattle.std.proofs.Common.{rules}
use Rattle.record.proofs.next_shape.Goals as goal

pub returns : goal.returns
returns g c = search rules
