-- The names of a scene are known.
use Prim.Native.Nat.{ℕ, ◌<◌, ◌≤◌}
use mathlib.Core.Path.{refl}
use mathlib.Core.List.{List, [], ◌∷◌}
use mathlib.Core.Bool.{Bool, true}
use native.Mathlib.Omega.{arith}
use lib.ListN.{length, replicate, length-replicate}
use Rattle.rules.specs.Leaf as leaf
use Rattle.rules.specs.Block as block
use Rattle.rules.specs.Reading.{Input}
use Rattle.position.specs.declared.PositionSyntax.{PositionSyntax}
use Rattle.position.specs.Shape.{default}
use Rattle.positions.specs.Positions.{updated_position, position_at, positions}
use Rattle.scene.specs.Scene.{scene_fields, scene_graph, scene_reading}
use Rattle.numbers.proofs.Distinct.{has_words}
use Rattle.laws.proofs.Named.{names_each, drc_count_then}
use Rattle.known_names.specs.Known.{KnownNames, AllKnown}
use Rattle.known_names.proofs.Words.{thirds, firsts, Begun, known_leaf, begun_scene_graph, begun_positions, known_names}
use Rattle.known_names.proofs.Numbers.{own_words, call_known}
use Rattle.known_names.proofs.Validation.{validate_graph_known}
use Rattle.known_names.proofs.Position.{position_known}

-- one position
updated_position_known : (p : ℕ) (sh : PositionSyntax) → Begun (2 ∷ []) 1 p → KnownNames (updated_position p sh)
unfolding updated_position thirds
updated_position_known p sh b = search (known_names, position_known)

position_at_known : (full : Bool) (i : ℕ) (sh : PositionSyntax) → i < firsts 2 → KnownNames (position_at full i sh)
unfolding position_at
position_at_known full i sh h = let b = begun_positions i h in search (known_names, position_known, updated_position_known)

-- those of a scene or of an update
pub positions_known : (full : Bool) (shapes : List PositionSyntax) → length shapes ≤ 63 → KnownNames (positions full shapes)
unfolding positions firsts
positions_known full shapes h = names_each _ 0 shapes (λ i sh _ l. position_at_known full i sh (omega arith))

scene_fields_known : KnownNames scene_fields
unfolding scene_fields thirds
scene_fields_known =
    drc_count_then _ 6 18 _ (known_leaf block.scene_graph leaf.count begun_scene_graph refl) (has_words 6 refl)
    (λ n l _. positions_known true (replicate n default) (omega (arith, length-replicate n default)))

scene_graph_known : KnownNames scene_graph
unfolding scene_graph
scene_graph_known = search (known_names, scene_fields_known, validate_graph_known)

pub scene_known : (i : Input) (offset : ℕ) → AllKnown (scene_reading i offset)
scene_known i offset = call_known i 0 offset (own_words true) (λ _. scene_graph_known)
