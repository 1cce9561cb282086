use Rattle.parser.proofs.Laws.{readings}
use Rattle.speakers.specs.Speakers.{labelled_layout}
use Rattle.speakers.proofs.labelled_layout.Goals as goal

pub returns : goal.returns
unfolding labelled_layout
returns c = search readings depth 14

pub returns-2 : goal.returns-2
unfolding labelled_layout
returns-2 c = search readings depth 14

pub returns-3 : goal.returns-3
unfolding labelled_layout
returns-3 c = search readings depth 14
