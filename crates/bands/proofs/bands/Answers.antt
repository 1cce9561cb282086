use Prim.Native.Nat.{◌+◌, ◌*◌}
use borrow.Author.Rules.{rules}
use Rattle.rules.specs.Name.{third}
use Rattle.parser.proofs.Laws.{readings}
use Rattle.bands.specs.Bands.{code_of, band, each_band, bands}
use Rattle.bands.proofs.bands.Goals as goal

pub returns : goal.returns
unfolding bands
returns c = search readings depth 14

pub returns-2 : goal.returns-2
unfolding bands each_band
returns-2 c =
    let each = c.each.ensures (λ i. band (c.args.p.word + third * i) (code_of c.args.kind) c.args.width) (λ i h p r q k. search rules) in
    search readings depth 14
