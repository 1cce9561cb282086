use Rattle.parser.proofs.Laws.{position_is}
use Rattle.compression.specs.Compression.{padding}
use Rattle.compression.proofs.padding.Goals as goal

pub returns : goal.returns
unfolding padding
returns c = position_is _ c.position.ensures c.passive_bits.ensures
