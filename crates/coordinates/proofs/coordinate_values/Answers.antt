use Rattle.coordinates.specs.Coordinates.{coordinate_values}
use Rattle.coordinates.proofs.coordinate_values.Goals as goal

pub returns : goal.returns
unfolding coordinate_values
returns c =
    rw (c.how_many-count.ensures, c.widths-all.ensures) at c.passive_values.ensures
