use borrow.Author.Rules.{rules}
use Rattle.common_resources.specs.Common.{number, number_unless}
use Rattle.common_resources.proofs.number_unless.Goals as goal

pub returns : goal.returns
unfolding number_unless
returns c = c.unless_flag.ensures (number c.args.name c.args.width) (λ p r q k. search rules)
