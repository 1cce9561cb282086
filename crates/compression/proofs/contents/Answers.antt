use Prim.Native.Nat.{◌≤◌}
use mathlib.Core.List.{[], ◌∷◌}
use mathlib.Core.Path.{refl}
use native.Mathlib.Omega.{arith}
use types.Run.{OneOf}
use Rattle.rules.specs.Derived.{choose}
use Rattle.parser.proofs.Choice.{chosen_last, past}
use Rattle.compression.specs.Compression.{contents}
use Rattle.compression.proofs.contents.Goals as goal

pub returns-in-0 : goal.returns-in-0
unfolding contents choose
returns-in-0 c = rw c.in-0.is c.lzw.ensures

pub returns-in-1 : goal.returns-in-1
unfolding contents choose
returns-in-1 c = rw c.in-1.is c.padded_tables.ensures

pub returns-in-2 : goal.returns-in-2
unfolding contents choose
returns-in-2 c = rw c.in-2.is c.padded_tables-in-2.ensures

pub returns-in-3 : goal.returns-in-3
unfolding contents choose
returns-in-3 c = rw c.in-3.is c.padded_tables-in-3.ensures

pub returns-in_default : goal.returns-in_default
unfolding contents
returns-in_default c =
    let other : OneOf (0 ∷ []) c.args.kind → ⊥ = assumption in
    let more : 4 ≤ c.args.kind = omega arith in
    chosen_last _ _ _ ((tt, other), past (1 ∷ 2 ∷ 3 ∷ []) 4 _ (refl, (refl, (refl, tt))) more) c.passive_bits.ensures
