use Prim.Native.Nat.{◌<◌, ◌≤◌}
use native.Mathlib.Omega.{arith}
use mathlib.Core.Path.{refl}
use mathlib.Core.List.{[], ◌∷◌}
use Rattle.parser.proofs.Laws.{readings}
use Rattle.parser.proofs.Choice.{chosen_three, chosen_last, passed, below, past, choices}
use Rattle.global.specs.Global.{metadata_global_parameter}
use Rattle.global.proofs.metadata_global_parameter.Goals as goal

pub returns-in-3 : goal.returns-in-3
unfolding metadata_global_parameter
returns-in-3 c = search (readings, choices) depth 14

pub returns-in-4 : goal.returns-in-4
unfolding metadata_global_parameter
returns-in-4 c = search (readings, choices) depth 14

pub returns-in-5 : goal.returns-in-5
unfolding metadata_global_parameter
returns-in-5 c = search (readings, choices) depth 14

pub returns-in-6 : goal.returns-in-6
unfolding metadata_global_parameter
returns-in-6 c = search (readings, choices) depth 14

pub returns-in-7 : goal.returns-in-7
unfolding metadata_global_parameter
returns-in-7 c = search (readings, choices) depth 14

pub returns-in-8 : goal.returns-in-8
unfolding metadata_global_parameter
returns-in-8 c = search (readings, choices) depth 14

pub returns-in-9 : goal.returns-in-9
unfolding metadata_global_parameter
returns-in-9 c = search (readings, choices) depth 14

pub returns-in-10 : goal.returns-in-10
unfolding metadata_global_parameter
returns-in-10 c = search (readings, choices) depth 14

pub returns-in-11 : goal.returns-in-11
unfolding metadata_global_parameter
returns-in-11 c = search (readings, choices) depth 14

pub returns-in-12 : goal.returns-in-12
unfolding metadata_global_parameter
returns-in-12 c = search (readings, choices) depth 14

pub returns-in-13 : goal.returns-in-13
unfolding metadata_global_parameter
returns-in-13 c = search (readings, choices) depth 14

pub returns-in-14 : goal.returns-in-14
unfolding metadata_global_parameter
returns-in-14 c = search (readings, choices) depth 14

pub returns-in-15 : goal.returns-in-15
unfolding metadata_global_parameter
returns-in-15 c = search (readings, choices) depth 14

pub returns-in-0 : goal.returns-in-0
unfolding metadata_global_parameter
returns-in-0 c =
    let read = c.number-in-0.ensures in
    let less : c.args.kind < 3 = omega arith in
    chosen_three _ _ (below (0 ∷ 1 ∷ 2 ∷ []) 3 _ (tt, (tt, (tt, tt))) less) read read read

pub returns-in_default : goal.returns-in_default
unfolding metadata_global_parameter
returns-in_default c =
    let more : 3 ≤ c.args.kind = omega arith in
    passed _ _ _ _ _ (past (0 ∷ 1 ∷ 2 ∷ []) 3 _ (refl, (refl, (refl, tt))) more) (chosen_last _ _ _ (assumption) c.payload.ensures)
