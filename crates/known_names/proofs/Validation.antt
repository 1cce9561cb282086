-- Validation records no names, and its numbers have words.
use Prim.Native.Nat.{ℕ}
use mathlib.Core.Path.{refl}
use mathlib.Core.List.{List}
use lib.Dec.{leb}
use Rattle.rules.specs.Rule.{refused}
use Rattle.rules.specs.Reading.{reading, ended_at}
use Rattle.rules.proofs.Pick.{by_pick}
use Rattle.position.specs.declared.PositionSyntax.{PositionSyntax}
use Rattle.validation.specs.Validation.{parents, validate_graph, if_valid, no_input, validation_reading}
use Rattle.numbers.proofs.Distinct.{has_words}
use Rattle.laws.specs.Named.{AllNamed}
use Rattle.laws.proofs.Named.{names_demand, told}
use Rattle.known_names.specs.Known.{KnownNames, AllKnown}
use Rattle.known_names.proofs.Words.{known_names}
use Rattle.known_names.proofs.Numbers.{of_readings, verdict_words}

pub validate_graph_known : (shapes : List PositionSyntax) → KnownNames (validate_graph shapes)
unfolding validate_graph
validate_graph_known shapes = names_demand _ _ (verdict_words (parents shapes))

if_valid_known : (shapes : List PositionSyntax) → KnownNames (if_valid shapes)
if_valid_known shapes = search (known_names, validate_graph_known)

-- called alone
pub validation_known : (count : ℕ) (shapes : List PositionSyntax) (at : ℕ) → AllKnown (validation_reading count shapes at)
unfolding validation_reading AllNamed
validation_known count shapes at =
    by_pick AllKnown (leb count 63) (reading no_input (if_valid shapes) at at 0) (ended_at (refused 2) 0 0)
    (λ _. told of_readings no_input at at 0 (if_valid_known shapes))
    (λ _. record { fields = tt; outcome = has_words 2 refl })
