use Prim.Native.Nat.{◌+◌, ◌*◌}
use borrow.Author.Rules.{rules}
use Rattle.rules.specs.Name.{third}
use Rattle.rules.specs.Leaf as leaf
use Rattle.common_resources.specs.Common.{number}
use Rattle.headphones.specs.Headphones.{channels}
use Rattle.headphones.proofs.channels.Goals as goal

pub returns : goal.returns
unfolding channels
returns c = c.each.ensures (λ i. number (c.args.p.word + leaf.channels + third * i) 3) (λ i h p r q k. search rules)
