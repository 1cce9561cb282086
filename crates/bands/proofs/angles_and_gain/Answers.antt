use Rattle.parser.proofs.Laws.{readings}
use Rattle.bands.specs.Bands.{angles_and_gain}
use Rattle.bands.proofs.angles_and_gain.Goals as goal

pub returns : goal.returns
unfolding angles_and_gain
returns c = search readings depth 14

pub returns-2 : goal.returns-2
unfolding angles_and_gain
returns-2 c = search readings depth 14
