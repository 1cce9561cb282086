use borrow.Author.Rules.{rules}
use Rattle.parser.proofs.Laws.{readings, questions}
use Rattle.parser.proofs.Steps.{ends_now}
use Rattle.configuration.specs.Configuration.{parameter, each_parameter, parameters}
use Rattle.configuration.proofs.parameters.Goals as goal

pub returns : goal.returns
unfolding parameters
returns c = search (readings, questions) depth 14

pub returns-then-n-gt-PARAMETERS : goal.returns-then-n-gt-PARAMETERS
unfolding parameters
returns-then-n-gt-PARAMETERS c = search (readings, questions, ends_now) depth 14

pub returns-2 : goal.returns-2
unfolding parameters each_parameter
returns-2 c = let each = c.each.ensures parameter (λ i h p r q k. search rules) in search (readings, questions) depth 14
