use Rattle.position.specs.Position.{rotation_values}
use Rattle.position.proofs.rotation_values.Goals as goal

pub returns : goal.returns
unfolding rotation_values
returns c = rw c.width-widths.ensures at c.passive_values.ensures
