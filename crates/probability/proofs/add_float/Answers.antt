use mathlib.Core.Path.{sym, ◌∙◌}
use Rattle.rules.proofs.Laws.{both}
use Rattle.parser.proofs.Laws.{readings}
use Rattle.parser.proofs.Steps.{ends_now}
use Rattle.probability.specs.Probability.{add_float}
use Rattle.probability.proofs.Finite.{finite_number}
use Rattle.probability.proofs.add_float.Goals as goal

pub returns : goal.returns
unfolding add_float
returns c = search readings depth 14

pub float_from_bits-result : goal.float_from_bits-result
float_from_bits-result c = finite_number _ (both _ (sym c.is_probability.ensures ∙ c.if-is_probability.true)).0

pub returns-then-is_probability : goal.returns-then-is_probability
unfolding add_float
returns-then-is_probability c = search readings depth 14

pub returns-2 : goal.returns-2
unfolding add_float
returns-2 c = search (readings, ends_now) depth 14
