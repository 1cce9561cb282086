-- The names of a group's renderer data are known.
use Prim.Native.Nat.{ℕ, ◌<◌, ◌≤◌}
use mathlib.Core.List.{[], ◌∷◌}
use mathlib.Core.Bool.{Bool}
use Rattle.matrix.specs.Matrix.{coefficient_bits, matrix_coefficients, matrix}
use Rattle.scene_reverb.specs.SceneReverb.{index_and_reverb, resource_and_reverb, room_geometry, scene_reverb}
use Rattle.renderer_kinds.specs.Kinds.{legacy_spread, spread_width, spread_values, spread, encoded_flag, region, each_region, regions, regions_unless_all, encoded_if_one, flag_and_encoded, single_region, single_region_if_present, order_and_encoded, encoded_unless_zero}
use Rattle.renderer.specs.Renderer.{renderer_parameter, parameter, each_parameter, renderer_data}
use Rattle.known_names.specs.Known.{KnownNames}
use Rattle.known_names.proofs.Words.{Begun, firsts, seconds, thirds, fourths, begun_group_data, begun_data_parameters, known_names}
use Rattle.known_names.proofs.Common.{number_known, number_if_known, number_unless_known, values_known, payload_known, default_position_known, resource_parameters_known, metadata_resource_known, metadata_reverb_known}
use Rattle.known_names.proofs.Radiation.{renderer_radiation_known}

-- one of 15 regions
region_known : (r : ℕ) (cartesian : Bool) → Begun (9 ∷ []) 15 r → KnownNames (region r cartesian)
unfolding region thirds fourths
region_known r cartesian b = search (known_names, number_known)

module _ (q : ℕ) (b : Begun (9 ∷ []) 1 q) where
  legacy_spread_known : KnownNames (legacy_spread q)
  unfolding legacy_spread thirds
  legacy_spread_known = search (known_names, values_known, number_known)

  spread_values_known : (width : ℕ) → KnownNames (spread_values q width)
  unfolding spread_values thirds
  spread_values_known width = search (known_names, values_known)

  spread_known : KnownNames (spread q)
  unfolding spread spread_width thirds
  spread_known = search (known_names, legacy_spread_known, spread_values_known) depth 8

  encoded_flag_known : KnownNames (encoded_flag q)
  unfolding encoded_flag thirds
  encoded_flag_known = search known_names

  each_region_known : (cartesian : Bool) (n : ℕ) → n ≤ 15 → KnownNames (each_region q cartesian n)
  unfolding each_region
  each_region_known cartesian n h = search (known_names, region_known)

  regions_known : KnownNames (regions q)
  unfolding regions thirds
  regions_known = search (known_names, each_region_known)

  regions_unless_all_known : KnownNames (regions_unless_all q)
  unfolding regions_unless_all thirds
  regions_unless_all_known = search (known_names, regions_known)

  index_and_reverb_known : KnownNames (index_and_reverb q)
  unfolding index_and_reverb thirds
  index_and_reverb_known = search (known_names, metadata_reverb_known)

  resource_and_reverb_known : KnownNames (resource_and_reverb q)
  unfolding resource_and_reverb thirds
  resource_and_reverb_known = search (known_names, metadata_resource_known, index_and_reverb_known)

  room_geometry_known : KnownNames (room_geometry q)
  unfolding room_geometry thirds
  room_geometry_known = search (known_names, metadata_resource_known, values_known)

  scene_reverb_known : KnownNames (scene_reverb q)
  unfolding scene_reverb thirds
  scene_reverb_known = search (known_names, index_and_reverb_known, resource_and_reverb_known, room_geometry_known) depth 9

  encoded_if_one_known : KnownNames (encoded_if_one q)
  unfolding encoded_if_one thirds
  encoded_if_one_known = search (known_names, number_if_known)

  flag_and_encoded_known : KnownNames (flag_and_encoded q)
  unfolding flag_and_encoded thirds
  flag_and_encoded_known = search (known_names, number_if_known)

  single_region_known : KnownNames (single_region q)
  unfolding single_region thirds
  single_region_known = search (known_names, values_known, number_known) depth 6

  single_region_if_present_known : KnownNames (single_region_if_present q)
  unfolding single_region_if_present thirds
  single_region_if_present_known = search (known_names, single_region_known)

  order_and_encoded_known : KnownNames (order_and_encoded q)
  unfolding order_and_encoded thirds
  order_and_encoded_known = search (known_names, number_unless_known, number_known)

  coefficient_bits_known : (n : ℕ) → KnownNames (coefficient_bits q n)
  unfolding coefficient_bits thirds
  coefficient_bits_known n = search known_names

  matrix_coefficients_known : KnownNames (matrix_coefficients q)
  unfolding matrix_coefficients thirds
  matrix_coefficients_known = search (known_names, coefficient_bits_known)

  matrix_known : KnownNames (matrix q)
  unfolding matrix thirds
  matrix_known = search (known_names, resource_parameters_known, matrix_coefficients_known) depth 8

  encoded_unless_zero_known : KnownNames (encoded_unless_zero q)
  unfolding encoded_unless_zero thirds
  encoded_unless_zero_known = search (known_names, number_if_known)

  renderer_parameter_known : (kind : ℕ) → KnownNames (renderer_parameter q kind)
  unfolding renderer_parameter thirds
  renderer_parameter_known kind =
      search (known_names, default_position_known, spread_known, number_known, number_if_known, values_known, encoded_flag_known, regions_unless_all_known, scene_reverb_known, encoded_if_one_known, renderer_radiation_known, flag_and_encoded_known, single_region_if_present_known, order_and_encoded_known, matrix_known, encoded_unless_zero_known, payload_known) depth 30 fits 4000

  parameter_known : KnownNames (parameter q)
  unfolding parameter thirds
  parameter_known = search (known_names, renderer_parameter_known)

-- of a group
each_parameter_known : (g n : ℕ) → g < firsts 9 → n ≤ 128 → KnownNames (each_parameter g n)
unfolding each_parameter seconds
each_parameter_known g n h l = search (known_names, parameter_known, begun_data_parameters)

pub renderer_data_known : (g : ℕ) → g < firsts 8 → KnownNames (renderer_data g)
unfolding renderer_data firsts thirds
renderer_data_known g h = let b = begun_group_data g h in search (known_names, each_parameter_known)
