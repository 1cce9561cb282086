-- `renderer_data`: the field rules of a group's renderer data. The names of a parameter begin with the word `q`.
use Rattle.std.specs.Prelude.{ℕ, ◌+◌, [], ◌∷◌, leb}
use Rattle.rules.specs.Block as block
use Rattle.rules.specs.Leaf as leaf
use Rattle.rules.specs.Rule.{Rule, refused, ◌>>=◌, ◌>>◌}
use Rattle.rules.specs.Derived.{◌⇒◌, choose, escaped, demand, repeat}
use Rattle.common_resources.specs.Common.{number, number_if, values, payload}
use Rattle.default_position.specs.DefaultPosition.{default_position}
use Rattle.radiation.specs.Radiation.{renderer_radiation}
use Rattle.matrix.specs.Matrix.{matrix}
use Rattle.scene_reverb.specs.SceneReverb.{scene_reverb}
use Rattle.renderer_kinds.specs.Kinds.{spread, encoded_flag, regions_unless_all, encoded_if_one, flag_and_encoded, single_region_if_present, order_and_encoded, encoded_unless_zero}

-- `match kind { .. }`
unfoldable pub renderer_parameter : ℕ → ℕ → Rule (Unit {0})
renderer_parameter q kind =
    choose kind
    ((0 ∷ 18 ∷ 20 ∷ []) ⇒ default_position q
    ∷ (1 ∷ []) ⇒ spread q
    ∷ (2 ∷ []) ⇒ number (q + leaf.encoded) 7
    ∷ (3 ∷ []) ⇒ number (q + leaf.encoded) 8
    ∷ (4 ∷ []) ⇒ number_if (q + leaf.present) (q + leaf.encoded) 7
    ∷ (5 ∷ []) ⇒ values (q + leaf.renderer_values) (8 ∷ 1 ∷ 8 ∷ [])
    ∷ (6 ∷ 14 ∷ 21 ∷ []) ⇒ encoded_flag q
    ∷ (7 ∷ []) ⇒ regions_unless_all q
    ∷ (8 ∷ 15 ∷ []) ⇒ number (q + leaf.encoded) 3
    ∷ (9 ∷ []) ⇒ scene_reverb q
    ∷ (10 ∷ []) ⇒ encoded_if_one q
    ∷ (11 ∷ []) ⇒ renderer_radiation q
    ∷ (12 ∷ []) ⇒ flag_and_encoded q
    ∷ (13 ∷ []) ⇒ values (q + leaf.renderer_values) (1 ∷ 1 ∷ 3 ∷ [])
    ∷ (16 ∷ []) ⇒ number (q + leaf.encoded) 9
    ∷ (17 ∷ []) ⇒ single_region_if_present q
    ∷ (19 ∷ []) ⇒ order_and_encoded q
    ∷ (22 ∷ []) ⇒ matrix q
    ∷ (23 ∷ []) ⇒ number (q + leaf.encoded) 16
    ∷ (24 ∷ []) ⇒ encoded_unless_zero q
    ∷ [])
    (payload q)

-- one parameter, its kind and what follows it; the loop over them
unfoldable pub parameter : ℕ → Rule (Unit {0})
parameter q = do
  kind ← escaped (q + leaf.id) (4 ∷ 7 ∷ 10 ∷ [])
  renderer_parameter q kind

unfoldable pub each_parameter : ℕ → ℕ → Rule (Unit {0})
each_parameter g n = repeat (λ i. parameter (block.data_parameters g i)) n

-- `renderer_data` of group `g`
unfoldable pub renderer_data : ℕ → Rule (Unit {0})
renderer_data g = do
  n ← escaped (block.group_data g + leaf.parameter_count) (4 ∷ 7 ∷ 10 ∷ [])
  demand (leb n 128) (refused 12)
  each_parameter g n
