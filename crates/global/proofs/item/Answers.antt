use Prim.Native.Nat.{◌+◌, ◌*◌}
use mathlib.Core.List.{[], ◌∷◌}
use borrow.Author.Rules.{rules}
use Rattle.rules.specs.Name.{third, fourth}
use Rattle.rules.specs.Leaf as leaf
use Rattle.rules.specs.Derived.{passive_values}
use Rattle.global.specs.Global.{item}
use Rattle.global.proofs.item.Goals as goal

pub returns : goal.returns
unfolding item
returns c =
    c.unless_flag.ensures (passive_values (c.args.p.word + leaf.item_encoded + third * c.args.i) fourth (7 ∷ 7 ∷ 7 ∷ 7 ∷ 7 ∷ [])) (λ p r q k. search rules)
