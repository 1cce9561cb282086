use Prim.Native.Nat.{◌-◌}
use mathlib.Core.Path.{◌≡◌}
use native.Mathlib.Omega.{arith}
use Rattle.rules.specs.Derived.{passive_bits}
use Rattle.parser.proofs.Laws.{position_is, last}
use Rattle.headphones.specs.Headphones.{padding}
use Rattle.headphones.proofs.padding.Goals as goal

pub returns-then-end-position : goal.returns-then-end-position
unfolding padding passive_bits
returns-then-end-position c =
    let none : c.args.end - c.position-position.result ≡ 0 = omega (arith, c.if-end-position.true) in
    position_is _ c.position-position.ensures (rw none last)

pub returns : goal.returns
unfolding padding
returns c = position_is _ c.position-position.ensures c.passive_bits.ensures
