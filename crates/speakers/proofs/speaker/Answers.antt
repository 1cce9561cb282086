use Rattle.parser.proofs.Laws.{readings}
use Rattle.speakers.specs.Speakers.{speaker}
use Rattle.speakers.proofs.speaker.Goals as goal

pub returns : goal.returns
unfolding speaker
returns c = search readings depth 14

pub returns-2 : goal.returns-2
unfolding speaker
returns-2 c = search readings depth 14

pub returns-3 : goal.returns-3
unfolding speaker
returns-3 c = search readings depth 14
