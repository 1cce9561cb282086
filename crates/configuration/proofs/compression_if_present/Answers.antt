use borrow.Author.Rules.{rules}
use Rattle.configuration.specs.Configuration.{compression, compression_if_present}
use Rattle.configuration.proofs.compression_if_present.Goals as goal

pub returns : goal.returns
unfolding compression_if_present
returns c = c.if_flag.ensures compression (λ p r q k. search rules)
