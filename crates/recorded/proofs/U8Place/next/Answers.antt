use Rattle.std.proofs.Common.{rules}
use Rattle.recorded.proofs.U8Place.next.Goals as goal

pub returns : goal.returns
returns g c = search rules
