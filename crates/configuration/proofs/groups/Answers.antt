use borrow.Author.Rules.{rules}
use Rattle.parser.proofs.Laws.{readings}
use Rattle.configuration.specs.Configuration.{group, each_group, groups}
use Rattle.configuration.proofs.groups.Goals as goal

pub returns : goal.returns
unfolding groups
returns c = search readings depth 14

pub returns-2 : goal.returns-2
unfolding groups
returns-2 c = search readings depth 14

pub returns-3 : goal.returns-3
unfolding groups each_group
returns-3 c = let each = c.each.ensures group (λ i h p r q k. search rules) in search readings depth 14
