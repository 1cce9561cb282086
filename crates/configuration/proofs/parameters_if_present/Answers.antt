use borrow.Author.Rules.{rules}
use Rattle.configuration.specs.Configuration.{parameters, parameters_if_present}
use Rattle.configuration.proofs.parameters_if_present.Goals as goal

pub returns : goal.returns
unfolding parameters_if_present
returns c = c.if_flag.ensures parameters (λ p r q k. search rules)
