use borrow.Author.Rules.{rules}
use Rattle.renderer_kinds.specs.Kinds.{single_region, single_region_if_present}
use Rattle.renderer_kinds.proofs.single_region_if_present.Goals as goal

pub returns : goal.returns
unfolding single_region_if_present
returns c = c.if_flag.ensures (single_region c.args.q.word) (λ p r q k. search rules)
