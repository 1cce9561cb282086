use Rattle.show_parts.proofs.Answers.{few_left, many_left}
use Rattle.show_parts.proofs.spare.Goals as goal

pub returns-then-left-lt8 : goal.returns-then-left-lt8
returns-then-left-lt8 c = few_left _ _ c.if-left-lt8.true c.read.ensures

pub returns-else-left-lt8 : goal.returns-else-left-lt8
returns-else-left-lt8 c = many_left _ _ c.if-left-lt8.false
