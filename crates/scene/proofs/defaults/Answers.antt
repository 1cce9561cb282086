use Rattle.scene.specs.Scene.{defaults}
use Rattle.scene.proofs.defaults.Goals as goal

pub returns : goal.returns
unfolding defaults
returns c = rw c.default.ensures
