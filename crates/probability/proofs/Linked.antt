-- A program that has this crate's table, and the code of what the crate calls, has the code of these functions: for the crate `linked`.
use Rattle.rules.proofs.Table.{HasAt}
use Rattle.probability.proofs.TheLink.{table, Below, linked-probability::is_finite, linked-probability::probabilities}
use Rattle.probability.proofs.is_finite.Symbol.{code as is_finite_code}
use Rattle.probability.proofs.probabilities.Symbol.{code as probabilities_code}

pub is_finite : HasAt "probability" table Below is_finite_code
is_finite = linked-probability::is_finite

pub probabilities : HasAt "probability" table Below probabilities_code
probabilities = linked-probability::probabilities
