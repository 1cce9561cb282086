use Rattle.std.proofs.Common.{rules}
use Rattle.record.proofs.read_bytes.Goals as goal

pub returns-in-Err-clause-read : goal.returns-in-Err-clause-read
returns-in-Err-clause-read g c = search rules
