use Rattle.std.proofs.Common.{rules}
use Rattle.recorded.proofs.answer_agrees.Goals as goal

pub returns-in-Some : goal.returns-in-Some
returns-in-Some c = search rules
