use Rattle.parser.proofs.Laws.{readings}
use Rattle.probability.specs.Probability.{probabilities}
use Rattle.probability.proofs.probabilities.Goals as goal

pub returns : goal.returns
unfolding probabilities
returns c = search readings depth 14

pub returns-then-width-eq32 : goal.returns-then-width-eq32
unfolding probabilities
returns-then-width-eq32 c = search readings depth 14

pub returns-2 : goal.returns-2
unfolding probabilities
returns-2 c = search readings depth 14
