-- The names of what global parameters and renderer data have in common are known.
use Prim.Native.Nat.{ℕ, ◌+◌, ◌-◌, ◌<◌, ◌≤◌}
use mathlib.Core.Path.{◌≡◌}
use mathlib.Core.List.{List, [], ◌∷◌}
use mathlib.Core.Bool.{true}
use native.Mathlib.Omega.{arith}
use lib.Dec.{leb}
use lib.ListN.{length}
use Rattle.rules.specs.Leaf as leaf
use Rattle.common_resources.specs.Common.{number, number_if, number_unless, values, payload, resource_parameters, metadata_resource, reverb_parameter, reverb_parameters, metadata_reverb}
use Rattle.default_position.specs.DefaultPosition.{default_position}
use Rattle.laws.proofs.Named.{names_fold, names_passive_values}
use Rattle.known_names.specs.Known.{Known, KnownNames}
use Rattle.known_names.proofs.Words.{Begun, thirds, known_third, known_names}
use Rattle.known_names.proofs.Position.{position_known}

pub number_known : (name w : ℕ) → Known name → KnownNames (number name w)
unfolding number
number_known name w h = search known_names

pub number_if_known : (test name w : ℕ) → Known test → Known name → KnownNames (number_if test name w)
unfolding number_if
number_if_known test name w t h = search (known_names, number_known)

pub number_unless_known : (test name w : ℕ) → Known test → Known name → KnownNames (number_unless test name w)
unfolding number_unless
number_unless_known test name w t h = search (known_names, number_known)

pub values_known : {bs : List ℕ} (p leaf : ℕ) (widths : List ℕ) → Begun bs 1 p → leb (length widths) (thirds bs leaf) ≡ true →
    KnownNames (values (p + leaf) widths)
unfolding values
values_known p leaf widths b h = names_passive_values _ _ _ (λ k l. known_third p leaf k b l h)

module _ (p : ℕ) (b : Begun (6 ∷ 9 ∷ []) 1 p) where
  pub payload_known : KnownNames (payload p)
  unfolding payload thirds
  payload_known = search known_names

  pub default_position_known : KnownNames (default_position p)
  unfolding default_position
  default_position_known = search (known_names, position_known)

-- a resource, whose leaves may be those of a resource that is named
pub resource_parameters_known : (p : ℕ) → Known (p + leaf.parameter0) → Known (p + leaf.parameter1) → KnownNames (resource_parameters p)
unfolding resource_parameters
resource_parameters_known p h k = search known_names

pub metadata_resource_known : (p : ℕ) → Known (p + leaf.type) → Known (p + leaf.parameter0) → Known (p + leaf.parameter1) → KnownNames (metadata_resource p)
unfolding metadata_resource
metadata_resource_known p t h k = search (known_names, resource_parameters_known)

-- a reverb, of renderer data alone
module _ (p : ℕ) (b : Begun (9 ∷ []) 1 p) where
  reverb_parameter_known : (i : ℕ) → i < 8 → KnownNames (reverb_parameter p i)
  unfolding reverb_parameter thirds
  reverb_parameter_known i h = search (known_names, number_if_known)

  reverb_parameters_known : (from to : ℕ) → from ≤ to → to ≤ 8 → KnownNames (reverb_parameters p from to)
  unfolding reverb_parameters
  reverb_parameters_known from to h l = names_fold _ from (to - from) tt (λ i _ _ m. reverb_parameter_known i (omega arith))

  pub metadata_reverb_known : KnownNames (metadata_reverb p)
  unfolding metadata_reverb thirds
  metadata_reverb_known =
      let before = reverb_parameters_known 0 5 (omega arith) (omega arith) in
      let after = reverb_parameters_known 5 8 (omega arith) (omega arith) in
      search known_names
