use Prim.Native.Nat.{◌+◌, ◌*◌}
use borrow.Author.Rules.{rules}
use Rattle.rules.specs.Name.{third}
use Rattle.rules.specs.Leaf as leaf
use Rattle.parser.proofs.Laws.{readings, first}
use Rattle.component.specs.Component.{metadata_number, each_channel_index, channel_indices}
use Rattle.component.proofs.channel_indices.Goals as goal

pub returns : goal.returns
unfolding channel_indices
returns c = search readings depth 14

pub returns-2 : goal.returns-2
unfolding channel_indices each_channel_index
returns-2 c =
    first _ c.count.ensures.met (search rules) (c.each.ensures (λ i. metadata_number (c.args.q.word + leaf.channel_indices + third * i)) (λ i h p r q k. search rules))
