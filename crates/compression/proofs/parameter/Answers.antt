use Rattle.rules.specs.Derived.{demand}
use Rattle.parser.proofs.Laws.{readings}
use Rattle.parser.proofs.Steps.{ends_now}
use Rattle.compression.specs.Compression.{parameter}
use Rattle.compression.proofs.parameter.Goals as goal

pub returns : goal.returns
unfolding parameter
returns c = search readings depth 14

pub returns-then-is_finite : goal.returns-then-is_finite
unfolding parameter demand
returns-then-is_finite c = search readings depth 14

pub returns-2 : goal.returns-2
unfolding parameter demand
returns-2 c = search (readings, ends_now) depth 14
