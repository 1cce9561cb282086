use borrow.Author.Rules.{rules}
use Rattle.renderer_kinds.specs.Kinds.{regions}
use Rattle.renderer_kinds.proofs.present_regions.Goals as goal

pub returns : goal.returns
returns c = c.unless_flag.ensures (regions c.args.q.word) (λ p r q k. search rules)
