use Rattle.parser.proofs.Laws.{readings}
use Rattle.bands.specs.Bands.{band}
use Rattle.bands.proofs.band.Goals as goal

pub returns : goal.returns
unfolding band
returns c = search readings depth 14

pub returns-2 : goal.returns-2
unfolding band
returns-2 c = search readings depth 14

pub returns-then-unity : goal.returns-then-unity
unfolding band
returns-then-unity c = search readings depth 14

pub returns-3 : goal.returns-3
unfolding band
returns-3 c = search readings depth 14
