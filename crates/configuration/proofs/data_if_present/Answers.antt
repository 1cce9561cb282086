use borrow.Author.Rules.{rules}
use Rattle.renderer.specs.Renderer.{renderer_data}
use Rattle.configuration.specs.Configuration.{data_if_present}
use Rattle.configuration.proofs.data_if_present.Goals as goal

pub returns : goal.returns
unfolding data_if_present
returns c = c.if_flag.ensures (renderer_data c.args.i) (λ p r q k. search rules)
