-- A program that has this crate's table, and the code of what the crate calls, has the code of these functions: for the crate `linked`.
use Rattle.rules.proofs.Table.{HasAt}
use Rattle.validation.proofs.TheLink.{table, Below, linked-validation::graph_ended, linked-validation::parents_of, linked-validation::validate, linked-validation::validated}
use Rattle.validation.proofs.graph_ended.Symbol.{code as graph_ended_code}
use Rattle.validation.proofs.parents_of.Symbol.{code as parents_of_code}
use Rattle.validation.proofs.validate.Symbol.{code as validate_code}
use Rattle.validation.proofs.validated.Symbol.{code as validated_code}

pub graph_ended : HasAt "validation" table Below graph_ended_code
graph_ended = linked-validation::graph_ended

pub parents_of : HasAt "validation" table Below parents_of_code
parents_of = linked-validation::parents_of

pub validate : HasAt "validation" table Below validate_code
validate = linked-validation::validate

pub validated : HasAt "validation" table Below validated_code
validated = linked-validation::validated
