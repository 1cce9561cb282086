use borrow.Author.Rules.{rules}
use Rattle.global.specs.Global.{items, item}
use Rattle.global.proofs.items.Goals as goal

pub returns : goal.returns
unfolding items
returns c = c.each.ensures (item c.args.p.word) (λ i h p r q k. search rules)
