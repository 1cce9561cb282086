use Rattle.std.proofs.Common.{rules}
use Rattle.recorded.proofs.bytes_agree.Goals as goal

pub returns-then-same-clause-answer : goal.returns-then-same-clause-answer
returns-then-same-clause-answer g c = search rules
