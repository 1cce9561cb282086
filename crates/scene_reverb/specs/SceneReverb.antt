-- Kind 9 of renderer data: a scene reverb.
use Rattle.std.specs.Prelude.{ℕ, ◌+◌, [], ◌∷◌, eqb, replicate}
use Rattle.rules.specs.Leaf as leaf
use Rattle.rules.specs.Rule.{Rule, done, ◌>>=◌, ◌>>◌, pick}
use Rattle.rules.specs.Derived.{◌⇒◌, choose, take, invalid, stop}
use Rattle.common_resources.specs.Common.{values, metadata_resource, metadata_reverb}

-- kind 9, types 1 to 3; a room geometry stops at a fallback other than 0
unfoldable pub index_and_reverb : ℕ → Rule (Unit {0})
index_and_reverb q = do
  take (q + leaf.index) 10
  metadata_reverb q

unfoldable pub resource_and_reverb : ℕ → Rule (Unit {0})
resource_and_reverb q = do
  metadata_resource (q + leaf.resource)
  index_and_reverb q

unfoldable pub room_geometry : ℕ → Rule (Unit {0})
room_geometry q = do
  metadata_resource (q + leaf.resource)
  fallback ← take (q + leaf.fallback_type) 3
  pick (eqb fallback 0) (values (q + leaf.renderer_values) (replicate 32 32)) (stop 31)

unfoldable pub scene_reverb : ℕ → Rule (Unit {0})
scene_reverb q = do
  kind ← take (q + leaf.type) 3
  choose kind
      ((0 ∷ []) ⇒ done tt
      ∷ (1 ∷ []) ⇒ index_and_reverb q
      ∷ (2 ∷ []) ⇒ resource_and_reverb q
      ∷ (3 ∷ []) ⇒ room_geometry q
      ∷ [])
      (invalid 13)
