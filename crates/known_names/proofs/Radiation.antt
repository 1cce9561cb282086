-- The names of a radiation pattern are known.
use Prim.Native.Nat.{ℕ, ◌+◌, ◌<◌, ◌≤◌}
use mathlib.Core.Path.{refl}
use mathlib.Core.List.{[], ◌∷◌}
use native.Mathlib.Omega.{arith}
use Rattle.rules.specs.Leaf as leaf
use Rattle.bands.specs.Bands.{renderer_precision, compact_or_precise, angles_and_gain, band_values, band, count_plus_one, each_band, bands}
use Rattle.radiation.specs.Radiation.{gain_and_angle, pattern, size, sizes, precision_width, pattern_of_precision, coefficients, resource_index, renderer_radiation}
use Rattle.numbers.specs.Meaning.{HasWords}
use Rattle.numbers.proofs.Distinct.{has_words}
use Rattle.laws.specs.Named.{Names}
use Rattle.laws.proofs.Named.{names_bind, names_weaker, escaped_value, count_value}
use Rattle.known_names.specs.Known.{Known, KnownNames}
use Rattle.known_names.proofs.Words.{Begun, thirds, fourths, known_leaf, known_names}
use Rattle.known_names.proofs.Common.{number_known, payload_known, metadata_resource_known}

renderer_precision_known : (name w : ℕ) → Known name → KnownNames (renderer_precision name w)
unfolding renderer_precision
renderer_precision_known name w h = search (known_names, number_known)

-- one of 582 bands
module _ (q : ℕ) (b : Begun (9 ∷ []) 582 q) where
  compact_or_precise_known : (w : ℕ) → KnownNames (compact_or_precise q w)
  unfolding compact_or_precise thirds fourths
  compact_or_precise_known w = search (known_names, renderer_precision_known)

  angles_and_gain_known : (w : ℕ) → KnownNames (angles_and_gain q w)
  unfolding angles_and_gain thirds fourths
  angles_and_gain_known w = search (known_names, renderer_precision_known)

  band_known : (kind w : ℕ) → KnownNames (band q kind w)
  unfolding band band_values thirds
  band_known kind w = search (known_names, compact_or_precise_known, angles_and_gain_known)

module _ (p : ℕ) (b : Begun (9 ∷ []) 1 p) where
  -- as many as the parts of 3, 6 and 9 bits come to, and one more
  count_plus_one_value : (least : ℕ) → Names Known HasWords (λ n. n ≤ 582) (count_plus_one p least)
  unfolding count_plus_one thirds
  count_plus_one_value least =
      names_bind (escaped_value _ _ (known_leaf p leaf.count_minus_one b refl))
      (λ n l. names_weaker (count_value (n + 1) least (has_words 6 refl)) (λ v q. omega (arith, q.0)))

  each_band_known : (kind w n : ℕ) → n ≤ 582 → KnownNames (each_band p kind w n)
  unfolding each_band
  each_band_known kind w n h = search (known_names, band_known)

  bands_known : (kind w : ℕ) → KnownNames (bands p kind w)
  unfolding bands
  bands_known kind w = names_bind (count_plus_one_value 11) (search (known_names, each_band_known))

  gain_and_angle_known : (w : ℕ) → KnownNames (gain_and_angle p w)
  unfolding gain_and_angle thirds
  gain_and_angle_known w = search (known_names, renderer_precision_known, number_known)

  pattern_known : (kind w : ℕ) → KnownNames (pattern p kind w)
  unfolding pattern
  pattern_known kind w = search (known_names, bands_known, gain_and_angle_known, payload_known) depth 8

  pattern_of_precision_known : KnownNames (pattern_of_precision p)
  unfolding pattern_of_precision precision_width thirds
  pattern_of_precision_known = search (known_names, pattern_known)

  size_known : (i entries : ℕ) → i < 582 → KnownNames (size p i entries)
  unfolding size thirds
  size_known i entries h = search known_names

  sizes_known : (n : ℕ) → n ≤ 582 → KnownNames (sizes p n)
  unfolding sizes
  sizes_known n h = search (known_names, size_known)

  coefficients_known : KnownNames (coefficients p)
  unfolding coefficients thirds
  coefficients_known = names_bind (count_plus_one_value 6) (search (known_names, sizes_known))

  resource_index_known : KnownNames (resource_index p)
  unfolding resource_index thirds
  resource_index_known = search (known_names, metadata_resource_known, number_known)

  pub renderer_radiation_known : KnownNames (renderer_radiation p)
  unfolding renderer_radiation thirds
  renderer_radiation_known = search (known_names, number_known, resource_index_known, pattern_of_precision_known, coefficients_known) depth 9
