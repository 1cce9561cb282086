use borrow.Author.Rules.{rules}
use Rattle.common_resources.specs.Common.{number, number_if}
use Rattle.common_resources.proofs.number_if.Goals as goal

pub returns : goal.returns
unfolding number_if
returns c = c.if_flag.ensures (number c.args.name c.args.width) (λ p r q k. search rules)
