use Rattle.show_parts.proofs.Answers.{words_off}
use Rattle.show_parts.proofs.show_update.Goals as goal

pub returns-clause-answered : goal.returns-clause-answered
returns-clause-answered c = let same = words_off c.update_part.ensures.answered in rw same at c.update_part.ensures.answered
