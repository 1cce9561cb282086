use borrow.Author.Rules.{rules}
use Prim.Native.Nat.{◌+◌}
use Rattle.rules.specs.Leaf as leaf
use Rattle.component.specs.Component.{metadata_number, second_parameter}
use Rattle.component.proofs.second_parameter.Goals as goal

pub returns : goal.returns
unfolding second_parameter
returns c = c.if_flag.ensures (metadata_number (c.args.q.word + leaf.parameter1)) (λ p r q k. search rules)
