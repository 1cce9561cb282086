use Prim.Native.Nat.{◌+◌, ◌*◌}
use borrow.Author.Rules.{rules}
use Rattle.rules.specs.Name.{third}
use Rattle.parser.proofs.Laws.{readings}
use Rattle.speakers.specs.Speakers.{speaker, speakers, layout}
use Rattle.speakers.proofs.layout.Goals as goal

pub returns : goal.returns
unfolding layout
returns c = search readings depth 14

pub returns-2 : goal.returns-2
unfolding layout
returns-2 c = search readings depth 14

pub returns-3 : goal.returns-3
unfolding layout speakers
returns-3 c =
    let each = c.each.ensures (λ i. speaker (c.args.p.word + third * i)) (λ i h p r q k. search rules) in
    search readings depth 14
