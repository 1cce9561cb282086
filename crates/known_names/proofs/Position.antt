-- The names of a position are known.
use Prim.Native.Nat.{ℕ, zero, suc, ◌+◌, ◌*◌, ◌≤◌}
use mathlib.Core.Path.{◌≡◌, refl}
use mathlib.Core.List.{List, [], ◌∷◌}
use mathlib.Core.Bool.{Bool, true, false}
use native.Mathlib.Omega.{arith}
use lib.Dec.{leb}
use lib.ListN.{length, length-take}
use Rattle.rules.specs.Name.{third}
use Rattle.rules.specs.Leaf as leaf
use Rattle.rules.specs.Rule.{pick}
use Rattle.rules.specs.Reading.{Input}
use Rattle.rules.proofs.Pick.{by_pick}
use Rattle.position.specs.declared.PositionSyntax.{PositionSyntax}
use Rattle.extensions.specs.Extensions.{extension_body, extension, extensions, extensions_if_present}
use Rattle.coordinates.specs.Coordinates.{bases, how_many, widths_of, coordinate_values}
use Rattle.position.specs.Position.{dynamics, precisions, header, changed, new_parent, parent, range, flag_unless, coordinates, coordinates_if_present, rotation_values, rotation, before_range, after_range, position}
use Rattle.position.specs.Formed.{is_shaped}
use Rattle.position_alone.specs.Entry.{position_reading}
use Rattle.numbers.proofs.Distinct.{has_words}
use Rattle.laws.proofs.Named.{names_ends, names_passive_values}
use Rattle.known_names.specs.Known.{Known, KnownNames, AllKnown}
use Rattle.known_names.proofs.Words.{Begun, firsts, thirds, known_leaf, known_third, begun_third, begun_among, begun_positions, known_names}
use Rattle.known_names.proofs.Numbers.{own_words, call_known}

-- The blocks that a position's names may be of: with `full` each of three, and those of an update are of block 2, where
-- alone the leaves of an update stand.
abbrev pub position_blocks : Bool → List ℕ
position_blocks full = pick full (2 ∷ 6 ∷ 9 ∷ []) (2 ∷ [])

first_word : {p : ℕ} (full : Bool) → Begun (2 ∷ []) 1 p → Begun (position_blocks full) 1 p
first_word true b = begun_among _ b refl
first_word false b = b

position_word : {p : ℕ} (full : Bool) → Begun (position_blocks full) 1 p → Begun (2 ∷ 6 ∷ 9 ∷ []) 1 p
position_word true b = b
position_word false b = begun_among _ b refl

update_leaf : (p leaf : ℕ) (full : Bool) → Begun (position_blocks full) 1 p → full ≡ false → leb 1 (thirds (2 ∷ []) leaf) ≡ true → Known (p + leaf)
update_leaf p leaf full b e h = known_leaf p leaf (rw e at b) h

-- flags that only an update has, and those that are read unless something is known
changed_known : (name : ℕ) (dynamic full : Bool) → (full ≡ false → Known name) → KnownNames (changed name dynamic full)
unfolding changed
changed_known name dynamic full h = search known_names

flag_unless_known : (name : ℕ) (known value : Bool) → (known ≡ false → Known name) → KnownNames (flag_unless name known value)
unfolding flag_unless
flag_unless_known name known value h = search known_names

-- an extension, whose names begin with `q`
extension_body_known : (q : ℕ) → Begun (2 ∷ 6 ∷ 9 ∷ []) 32 q → KnownNames (extension_body q)
unfolding extension_body thirds
extension_body_known q b = search known_names

extension_known : (q : ℕ) → Begun (2 ∷ 6 ∷ 9 ∷ []) 32 q → KnownNames (extension q)
unfolding extension thirds
extension_known q b = search (known_names, extension_body_known)

module _ (p : ℕ) (b : Begun (2 ∷ 6 ∷ 9 ∷ []) 1 p) where
  dynamics_known : (sh : PositionSyntax) → KnownNames (dynamics p sh)
  unfolding dynamics thirds
  dynamics_known sh = search known_names

  precisions_known : (sh : PositionSyntax) → KnownNames (precisions p sh)
  unfolding precisions thirds
  precisions_known sh = search known_names

  header_known : (sh : PositionSyntax) (full : Bool) → KnownNames (header p sh full)
  unfolding header thirds
  header_known sh full = search (known_names, dynamics_known, precisions_known)

  new_parent_known : (sh : PositionSyntax) → KnownNames (new_parent p sh)
  unfolding new_parent thirds
  new_parent_known sh = search known_names

  -- three numbers at most
  coordinate_values_known : (polar : Bool) (precision : ℕ) (delta : Bool) → KnownNames (coordinate_values p polar precision delta)
  unfolding coordinate_values thirds
  coordinate_values_known polar precision delta =
      let n : ℕ = how_many polar precision delta in
      let ws : List ℕ = widths_of (bases polar) precision delta in
      let three : length ws ≡ 3 = by_pick (λ bs. length (widths_of bs precision delta) ≡ 3) polar _ _ (λ _. refl) (λ _. refl) in
      names_passive_values _ _ _ (λ k l. known_third {n = 3} p leaf.position_encoded k b (omega (arith, length-take n ws)) refl)

  rotation_values_known : (precision : ℕ) (delta : Bool) → KnownNames (rotation_values p precision delta)
  unfolding rotation_values thirds
  rotation_values_known precision delta = search known_names

  -- the extensions from number `j` on, at most 32 in all
  extensions_known : (k j q : ℕ) → q ≡ p + third * j → j + k ≤ 32 → KnownNames (extensions k q)
  unfolding extensions
  extensions_known zero j q e h = names_ends (has_words 7 refl)
  extensions_known (suc k) j q e h =
      let here : Begun (2 ∷ 6 ∷ 9 ∷ []) 32 q = rw e (begun_third p j b (omega arith)) in
      let rest = extensions_known k (j + 1) (q + third) (omega arith) (omega arith) in
      search (known_names, extension_known)

  extensions_if_present_known : KnownNames (extensions_if_present p)
  unfolding extensions_if_present thirds
  extensions_if_present_known = let all = extensions_known 32 0 p (omega arith) (omega arith) in search known_names

  -- what has leaves of an update among its names
  module _ (full : Bool) (u : Begun (position_blocks full) 1 p) where
    parent_known : (sh : PositionSyntax) → KnownNames (parent p sh full)
    unfolding parent thirds
    parent_known sh = search (known_names, update_leaf, changed_known, new_parent_known)

    range_known : (dynamic : Bool) → KnownNames (range p dynamic full)
    unfolding range thirds
    range_known dynamic = search (known_names, update_leaf, changed_known)

    coordinates_known : (sh : PositionSyntax) → KnownNames (coordinates p sh full)
    unfolding coordinates thirds
    coordinates_known sh = search (known_names, update_leaf, flag_unless_known, coordinate_values_known)

    coordinates_if_present_known : (sh : PositionSyntax) → KnownNames (coordinates_if_present p sh full)
    unfolding coordinates_if_present thirds
    coordinates_if_present_known sh = search (known_names, coordinates_known)

    rotation_known : (precision : ℕ) → KnownNames (rotation p precision full)
    unfolding rotation thirds
    rotation_known precision = search (known_names, update_leaf, flag_unless_known, rotation_values_known)

    before_range_known : (sh : PositionSyntax) → KnownNames (before_range p sh full)
    unfolding before_range
    before_range_known sh = search (known_names, header_known, parent_known)

    after_range_known : (sh : PositionSyntax) → KnownNames (after_range p sh full)
    unfolding after_range
    after_range_known sh = search (known_names, coordinates_if_present_known, rotation_known, extensions_if_present_known)

pub position_known : (p : ℕ) (sh : PositionSyntax) (full : Bool) → Begun (position_blocks full) 1 p → KnownNames (position p sh full)
unfolding position
position_known p sh full u = let b = position_word full u in search (known_names, before_range_known, range_known, after_range_known)

-- called alone, with the names of the first position of a scene
pub position_alone_known : (i : Input) (offset : ℕ) (sh : PositionSyntax) (full : Bool) → AllKnown (position_reading i offset sh full)
unfolding firsts
position_alone_known i offset sh full =
    call_known i _ offset (own_words (is_shaped sh)) (λ _. position_known _ sh full (first_word full (begun_positions 0 (omega arith))))
