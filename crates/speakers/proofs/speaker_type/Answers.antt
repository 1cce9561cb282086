use Rattle.parser.proofs.Laws.{readings}
use Rattle.speakers.specs.Speakers.{speaker_type}
use Rattle.speakers.proofs.speaker_type.Goals as goal

pub returns : goal.returns
unfolding speaker_type
returns c = search readings depth 14

pub returns-2 : goal.returns-2
unfolding speaker_type
returns-2 c = search readings depth 14
