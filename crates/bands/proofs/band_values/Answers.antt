use borrow.Author.Rules.{rules}
use Rattle.bands.specs.Bands.{band_values}
use Rattle.bands.proofs.band_values.Goals as goal

pub returns-in-CompactOrPrecise : goal.returns-in-CompactOrPrecise
unfolding band_values
returns-in-CompactOrPrecise c = rw c.in-CompactOrPrecise.is (search rules)

pub returns-in-AnglesAndGain : goal.returns-in-AnglesAndGain
unfolding band_values
returns-in-AnglesAndGain c = rw c.in-AnglesAndGain.is (search rules)
