-- The names of a global parameter are known.
use Prim.Native.Nat.{ℕ, ◌+◌, ◌*◌, ◌<◌, ◌≤◌}
use mathlib.Core.Path.{refl}
use mathlib.Core.List.{[], ◌∷◌}
use native.Mathlib.Omega.{arith}
use Rattle.rules.specs.Leaf as leaf
use Rattle.headphones.specs.Headphones.{channels, padding, padded_channels, headphone_channels, headphones}
use Rattle.hrtf.specs.Hrtf.{hrtf_resource, hrtf_type, hrtf}
use Rattle.speakers.specs.Speakers.{speaker_type, speaker, speakers, layout, labelled_layout}
use Rattle.global.specs.Global.{gain_values, gain, item, items, mask, masked_items, predefined_index, resource_reference, predefined, metadata_global_parameter}
use Rattle.numbers.proofs.Distinct.{has_words}
use Rattle.laws.proofs.Named.{names_then, names_position, take_then, most_then}
use Rattle.known_names.specs.Known.{KnownNames}
use Rattle.known_names.proofs.Words.{Begun, thirds, fourths, known_leaf, known_names}
use Rattle.known_names.proofs.Common.{number_known, number_if_known, number_unless_known, values_known, payload_known, default_position_known, metadata_resource_known}

-- one of 255 speakers
speaker_known : (q : ℕ) → Begun (6 ∷ []) 255 q → KnownNames (speaker q)
unfolding speaker speaker_type thirds fourths
speaker_known q b = search (known_names, number_known, number_unless_known)

module _ (p : ℕ) (b : Begun (6 ∷ []) 1 p) where
  gain_values_known : KnownNames (gain_values p)
  unfolding gain_values thirds
  gain_values_known = search (known_names, values_known)

  gain_known : KnownNames (gain p)
  unfolding gain thirds
  gain_known = search (known_names, number_unless_known, gain_values_known)

  item_known : (i : ℕ) → i < 9 → KnownNames (item p i)
  unfolding item thirds fourths
  item_known i h = search known_names

  masked_items_known : KnownNames (masked_items p)
  unfolding masked_items items mask thirds
  masked_items_known = search (known_names, values_known, item_known)

  hrtf_resource_known : KnownNames (hrtf_resource p)
  unfolding hrtf_resource thirds
  hrtf_resource_known = search (known_names, metadata_resource_known)

  hrtf_type_known : (type : ℕ) → KnownNames (hrtf_type p type)
  unfolding hrtf_type thirds
  hrtf_type_known type = search (known_names, number_known, hrtf_resource_known) depth 8

  hrtf_known : KnownNames (hrtf p)
  unfolding hrtf thirds
  hrtf_known = search (known_names, number_if_known, hrtf_type_known)

  speakers_known : (n : ℕ) → n ≤ 255 → KnownNames (speakers p n)
  unfolding speakers
  speakers_known n h = search (known_names, speaker_known)

  layout_known : KnownNames (layout p)
  unfolding layout thirds
  layout_known = search (known_names, speakers_known)

  labelled_layout_known : KnownNames (labelled_layout p)
  unfolding labelled_layout thirds
  labelled_layout_known = search (known_names, metadata_resource_known, layout_known)

  resource_reference_known : KnownNames (resource_reference p)
  unfolding resource_reference thirds
  resource_reference_known = search (known_names, metadata_resource_known)

  predefined_known : KnownNames (predefined p)
  unfolding predefined predefined_index thirds
  predefined_known = search (known_names, resource_reference_known)

  channels_known : (n : ℕ) → n ≤ 40 → KnownNames (channels p n)
  unfolding channels thirds
  channels_known n h = search (known_names, number_known)

  padded_channels_known : (n end : ℕ) → n ≤ 40 → KnownNames (padded_channels p n end)
  unfolding padded_channels padding thirds
  padded_channels_known n end h = search (known_names, channels_known)

  -- as many channels as their declared bytes have room for
  headphone_channels_known : (bits : ℕ) → bits ≤ 128 → KnownNames (headphone_channels p bits)
  unfolding headphone_channels thirds
  headphone_channels_known bits h =
      names_then names_position
      (λ start.
      take_then _ 8 _ (known_leaf p leaf.channels_minus_one b refl)
      (λ n _. most_then _ bits _ _ (has_words 18 refl) (λ l. padded_channels_known (n + 1) (start + bits) (omega arith))))

  headphones_known : KnownNames (headphones p)
  unfolding headphones thirds
  headphones_known = take_then _ 4 _ (known_leaf p leaf.bytes_minus_one b refl) (λ n l. headphone_channels_known ((n + 1) * 8) (omega arith))

  pub metadata_global_parameter_known : (kind : ℕ) → KnownNames (metadata_global_parameter p kind)
  unfolding metadata_global_parameter thirds
  metadata_global_parameter_known kind =
      search (known_names, number_known, values_known, gain_known, masked_items_known, hrtf_known, metadata_resource_known, labelled_layout_known, default_position_known, predefined_known, headphones_known, payload_known) depth 20 fits 4000
