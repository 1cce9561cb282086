use Rattle.parser.proofs.Laws.{readings}
use Rattle.parser.proofs.Steps.{ends_now}
use Rattle.bands.specs.Bands.{renderer_precision}
use Rattle.bands.proofs.renderer_precision.Goals as goal

pub returns-then-width-eq64 : goal.returns-then-width-eq64
unfolding renderer_precision
returns-then-width-eq64 c = search (readings, ends_now) depth 14

pub returns : goal.returns
unfolding renderer_precision
returns c = search readings depth 14
