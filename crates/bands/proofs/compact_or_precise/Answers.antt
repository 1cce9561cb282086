use Rattle.parser.proofs.Laws.{readings}
use Rattle.bands.specs.Bands.{compact_or_precise}
use Rattle.bands.proofs.compact_or_precise.Goals as goal

pub returns : goal.returns
unfolding compact_or_precise
returns c = search readings depth 14

pub returns-then-compact : goal.returns-then-compact
unfolding compact_or_precise
returns-then-compact c = search readings depth 14

pub returns-2 : goal.returns-2
unfolding compact_or_precise
returns-2 c = search readings depth 14

pub returns-3 : goal.returns-3
unfolding compact_or_precise
returns-3 c = search readings depth 14
