use Rattle.parser.proofs.Laws.{readings}
use Rattle.headphones.specs.Headphones.{headphones}
use Rattle.headphones.proofs.headphones.Goals as goal

pub returns : goal.returns
unfolding headphones
returns c = search readings depth 14

pub returns-2 : goal.returns-2
unfolding headphones
returns-2 c = search readings depth 14
