use Prim.Native.Nat.{◌<◌, ◌≤◌}
use native.Mathlib.Omega.{arith}
use mathlib.Core.List.{[], ◌∷◌}
use mathlib.Core.Path.{refl}
use mathlib.Core.Logic.{inl}
use borrow.Author.Rules.{rules}
use types.Run.{OneOf}
use Rattle.parser.proofs.Laws.{readings}
use Rattle.parser.proofs.Steps.{ends_now}
use Rattle.parser.proofs.Choice.{chosen_three, chosen_last, below, past, but_first, choices}
use Rattle.component.specs.Component.{component_parameters}
use Rattle.component.proofs.component_parameters.Goals as goal
use Rattle.component.proofs.component_parameters.Goals.{in-0-1, in_default+then-kind-lt4}

pub returns-in-1 : goal.returns-in-1
unfolding component_parameters
returns-in-1 c = search (readings, choices) depth 14

pub returns-in_default : goal.returns-in_default
unfolding component_parameters
returns-in_default c =
    let other : OneOf (1 ∷ 4 ∷ []) c.args.kind → ⊥ = assumption in
    let more : 4 ≤ c.args.kind = omega arith in
    chosen_last _ _ _ ((tt, past (0 ∷ 2 ∷ 3 ∷ []) 4 _ (refl, (refl, (refl, tt))) more), other) (ends_now refl)

pub returns-in-0 : goal.returns-in-0
unfolding component_parameters
returns-in-0 c =
    let read = c.metadata_number.ensures in
    let of : OneOf (0 ∷ 2 ∷ 3 ∷ []) c.args.kind =
    elim c.in-0-1.branch [
      | in-0-1 w ↦ search rules
      | in_default+then-kind-lt4 w ↦
          let other : OneOf (1 ∷ 4 ∷ []) c.args.kind → ⊥ = assumption in
          let less : c.args.kind < 4 = omega arith in
          but_first 1 0 (2 ∷ 3 ∷ []) _ (λ e. other (inl e)) (below (1 ∷ 0 ∷ 2 ∷ 3 ∷ []) 4 _ (tt, (tt, (tt, (tt, tt)))) less)
    ] in
    chosen_three _ _ of read read read
