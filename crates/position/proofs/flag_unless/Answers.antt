use Rattle.parser.proofs.Laws.{readings}
use Rattle.position.specs.Position.{flag_unless}
use Rattle.position.proofs.flag_unless.Goals as goal

pub returns-then-known : goal.returns-then-known
unfolding flag_unless
returns-then-known c = search readings depth 14

pub returns : goal.returns
unfolding flag_unless
returns c = search readings depth 14
