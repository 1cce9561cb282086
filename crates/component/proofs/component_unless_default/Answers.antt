use borrow.Author.Rules.{rules}
use Rattle.component.specs.Component.{component, component_unless_default}
use Rattle.component.proofs.component_unless_default.Goals as goal

pub returns : goal.returns
unfolding component_unless_default
returns c = c.unless_flag.ensures (component c.args.q.word) (λ p r q k. search rules)
