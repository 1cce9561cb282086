use Rattle.std.proofs.Common.{rules}
use Rattle.input.proofs.first_bytes.Goals as goal

pub returns : goal.returns
returns g c = search rules
