use Rattle.probability.proofs.Finite.{finite_test}
use Rattle.probability.proofs.is_finite.Goals as goal

pub returns : goal.returns
returns c = finite_test _
