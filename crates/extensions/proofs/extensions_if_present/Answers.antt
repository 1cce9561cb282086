use borrow.Author.Rules.{rules}
use Rattle.extensions.specs.Extensions.{extensions, extensions_if_present}
use Rattle.extensions.proofs.extensions_if_present.Goals as goal

pub returns : goal.returns
unfolding extensions_if_present
returns c = c.if_flag.ensures (extensions 32 c.args.p.word) (λ p r q k. search rules)
