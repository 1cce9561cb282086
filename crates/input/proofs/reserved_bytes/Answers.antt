use Rattle.std.proofs.Common.{rules}
use Rattle.input.proofs.reserved_bytes.Goals as goal

pub returns : goal.returns
returns g c = search rules
