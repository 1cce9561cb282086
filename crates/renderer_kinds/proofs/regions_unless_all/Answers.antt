use Prim.Native.Nat.{◌+◌}
use borrow.Author.Rules.{rules}
use Rattle.rules.specs.Leaf as leaf
use Rattle.parser.specs.Each.{unless}
use Rattle.renderer_kinds.specs.Kinds.{regions, regions_unless_all}
use Rattle.renderer_kinds.proofs.regions_unless_all.Goals as goal

pub returns : goal.returns
unfolding regions_unless_all
returns c = c.if_flag.ensures (unless (c.args.q.word + leaf.all) (regions c.args.q.word)) (λ p r q k. search rules)
