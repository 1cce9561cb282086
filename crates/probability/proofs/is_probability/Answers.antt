use mathlib.Core.Path.{sym, ◌∙◌}
use Rattle.probability.proofs.Finite.{finite_number}
use Rattle.probability.proofs.is_probability.Goals as goal

pub float_from_bits-result : goal.float_from_bits-result
float_from_bits-result c = finite_number _ (sym c.is_finite.ensures ∙ c.if-is_finite.true)
