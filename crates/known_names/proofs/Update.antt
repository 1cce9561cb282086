-- The names of an update are known.
use Prim.Native.Nat.{ℕ, ◌≤◌}
use mathlib.Core.Path.{◌≡◌, refl}
use mathlib.Core.List.{List}
use mathlib.Core.Bool.{Bool, true, false}
use native.Mathlib.Omega.{arith}
use borrow.Author.Tests.{leb-true}
use lib.Dec.{leb}
use lib.ListN.{length}
use Rattle.rules.specs.Rule.{pick}
use Rattle.rules.specs.Reading.{Input}
use Rattle.rules.proofs.Laws.{both}
use Rattle.position.specs.declared.PositionSyntax.{PositionSyntax}
use Rattle.update.specs.Update.{update_fields, graph_update, may_update, update_reading}
use Rattle.known_names.specs.Known.{KnownNames, AllKnown}
use Rattle.known_names.proofs.Words.{known_names}
use Rattle.known_names.proofs.Numbers.{own_words, call_known}
use Rattle.known_names.proofs.Validation.{validate_graph_known}
use Rattle.known_names.proofs.Scene.{positions_known}

graph_update_known : (shapes : List PositionSyntax) → length shapes ≤ 63 → KnownNames (graph_update shapes)
unfolding graph_update update_fields
graph_update_known shapes h = search (known_names, positions_known, validate_graph_known)

-- a question that is met
met : (b : Bool) → pick {A = ℕ} b 0 2 ≡ 0 → b ≡ true
met true e = refl
met false e = absurd (omega arith)

-- of no more shapes than are counted: question 2 bounds the count
pub update_known : (i : Input) (offset count : ℕ) (shapes : List PositionSyntax) → length shapes ≤ count → AllKnown (update_reading i offset count shapes)
update_known i offset count shapes h =
    call_known i _ offset (own_words (may_update count shapes))
    (λ e. graph_update_known shapes (omega (arith, leb-true count 63 (both (leb count 63) (met (may_update count shapes) e)).0)))
