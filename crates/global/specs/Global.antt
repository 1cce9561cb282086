-- `metadata_global_parameter`: the parameters 0 to 15 of a whole configuration, the names of each beginning with the word `p`.
use Rattle.std.specs.Prelude.{ℕ, ◌+◌, ◌*◌, [], ◌∷◌}
use Rattle.rules.specs.Name.{third, fourth}
use Rattle.rules.specs.Leaf as leaf
use Rattle.rules.specs.Rule.{Rule, done, ◌>>=◌, ◌>>◌, pick}
use Rattle.rules.specs.Derived.{◌⇒◌, choose, take, flag, escaped, passive_bits, passive_values, repeat}
use Rattle.common_resources.specs.Common.{number, number_unless, values, payload, metadata_resource}
use Rattle.default_position.specs.DefaultPosition.{default_position}
use Rattle.headphones.specs.Headphones.{headphones}
use Rattle.hrtf.specs.Hrtf.{hrtf}
use Rattle.speakers.specs.Speakers.{labelled_layout}

-- kind 5: a gain, its range and four values
unfoldable pub gain_values : ℕ → Rule (Unit {0})
gain_values p = do
  cartesian ← flag (p + leaf.cartesian)
  pick cartesian (values (p + leaf.global_values) (8 ∷ 8 ∷ 8 ∷ 7 ∷ [])) (values (p + leaf.global_values) (9 ∷ 8 ∷ 7 ∷ 8 ∷ []))

unfoldable pub gain : ℕ → Rule (Unit {0})
gain p = do
  take (p + leaf.gain_encoded) 8
  number_unless (p + leaf.unit_range) (p + leaf.range_encoded) 4
  gain_values p

-- kind 6: nine items, and a mask of as many bits as it says
unfoldable pub item : ℕ → ℕ → Rule (Unit {0})
item p i = do
  default ← flag (p + leaf.item_default + third * i)
  pick default (done tt) (passive_values (p + leaf.item_encoded + third * i) fourth (7 ∷ 7 ∷ 7 ∷ 7 ∷ 7 ∷ []))

unfoldable pub items : ℕ → Rule (Unit {0})
items p = repeat (item p) 9

unfoldable pub mask : ℕ → Rule (Unit {0})
mask p = do
  n ← take (p + leaf.mask_bits_minus_one) 7
  passive_bits (p + leaf.mask) (n + 1)

unfoldable pub masked_items : ℕ → Rule (Unit {0})
masked_items p = do
  values (p + leaf.global_values) (2 ∷ 2 ∷ 3 ∷ [])
  items p
  mask p

-- kind 12: an index of something predefined, or a resource
unfoldable pub predefined_index : ℕ → Rule (Unit {0})
predefined_index p = do
  escaped (p + leaf.index) (3 ∷ 6 ∷ 10 ∷ [])
  done tt

unfoldable pub resource_reference : ℕ → Rule (Unit {0})
resource_reference p = do
  metadata_resource (p + leaf.resource)
  escaped (p + leaf.parameter0) (3 ∷ 6 ∷ 10 ∷ [])
  escaped (p + leaf.parameter1) (4 ∷ 8 ∷ 16 ∷ [])
  done tt

unfoldable pub predefined : ℕ → Rule (Unit {0})
predefined p = do
  there ← flag (p + leaf.predefined)
  pick there (predefined_index p) (resource_reference p)

unfoldable pub metadata_global_parameter : ℕ → ℕ → Rule (Unit {0})
metadata_global_parameter p kind =
    choose kind
    ((0 ∷ 1 ∷ 2 ∷ []) ⇒ number (p + leaf.encoded) 1
    ∷ (3 ∷ []) ⇒ number (p + leaf.encoded) 5
    ∷ (4 ∷ []) ⇒ values (p + leaf.global_values) (3 ∷ 8 ∷ 8 ∷ 8 ∷ 3 ∷ 8 ∷ 8 ∷ 8 ∷ [])
    ∷ (5 ∷ []) ⇒ gain p
    ∷ (6 ∷ []) ⇒ masked_items p
    ∷ (7 ∷ []) ⇒ hrtf p
    ∷ (8 ∷ []) ⇒ metadata_resource p
    ∷ (9 ∷ []) ⇒ labelled_layout p
    ∷ (10 ∷ []) ⇒ values (p + leaf.global_values) (3 ∷ 32 ∷ 32 ∷ 32 ∷ 1 ∷ [])
    ∷ (11 ∷ []) ⇒ default_position p
    ∷ (12 ∷ []) ⇒ predefined p
    ∷ (13 ∷ []) ⇒ number (p + leaf.encoded) 6
    ∷ (14 ∷ []) ⇒ values (p + leaf.global_values) (4 ∷ 8 ∷ [])
    ∷ (15 ∷ []) ⇒ headphones p
    ∷ [])
    (payload p)
