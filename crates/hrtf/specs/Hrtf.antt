-- Kind 7 of the parameters of a whole configuration: a head-related transfer function.
use Rattle.std.specs.Prelude.{ℕ, ◌+◌, [], ◌∷◌}
use Rattle.rules.specs.Leaf as leaf
use Rattle.rules.specs.Rule.{Rule, done, ◌>>=◌, ◌>>◌}
use Rattle.rules.specs.Derived.{◌⇒◌, choose, take, stop}
use Rattle.common_resources.specs.Common.{number, number_if, metadata_resource}

-- kind 7: a head-related transfer function, whose types above 1 are stopped
unfoldable pub hrtf_resource : ℕ → Rule (Unit {0})
hrtf_resource p = do
  metadata_resource (p + leaf.resource)
  take (p + leaf.mode) 3
  stop 33

unfoldable pub hrtf_type : ℕ → ℕ → Rule (Unit {0})
hrtf_type p type =
    choose type
    ((0 ∷ []) ⇒ done tt
    ∷ (1 ∷ []) ⇒ number (p + leaf.index) 8
    ∷ (2 ∷ []) ⇒ hrtf_resource p
    ∷ [])
    (stop 34)

unfoldable pub hrtf : ℕ → Rule (Unit {0})
hrtf p = do
  number_if (p + leaf.value_present) (p + leaf.value_encoded) 32
  type ← take (p + leaf.type) 3
  hrtf_type p type
