use Rattle.std.proofs.Common.{rules}
use Rattle.recorded.proofs.text_agrees.Goals as goal

pub returns-clause-answer : goal.returns-clause-answer
returns-clause-answer g c = search rules
