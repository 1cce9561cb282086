use Prim.Native.Nat.{◌+◌, ◌*◌}
use borrow.Author.Rules.{rules}
use Rattle.rules.specs.Name.{third}
use Rattle.parser.proofs.Laws.{readings}
use Rattle.renderer_kinds.specs.Kinds.{region, each_region, regions}
use Rattle.renderer_kinds.proofs.regions.Goals as goal

pub returns : goal.returns
unfolding regions
returns c = search readings depth 14

pub returns-2 : goal.returns-2
unfolding regions
returns-2 c = search readings depth 14

pub returns-3 : goal.returns-3
unfolding regions each_region
returns-3 c =
    let each = c.each.ensures (λ j. region (c.args.q.word + third * j) c.in-Ok-tri.field-0) (λ j h p r q k. search rules) in
    search readings depth 14
