-- The names of a metadata configuration are known.
use Prim.Native.Nat.{ℕ, ◌+◌, ◌<◌, ◌≤◌}
use mathlib.Core.Path.{refl}
use mathlib.Core.List.{[], ◌∷◌}
use mathlib.Core.Bool.{true}
use native.Mathlib.Omega.{arith}
use Rattle.rules.specs.Leaf as leaf
use Rattle.rules.specs.Reading.{Input}
use Rattle.component.specs.Component.{metadata_esc, metadata_number, second_parameter, both_parameters, component_parameters, component_reference, each_channel_index, channel_indices, channels, component, component_unless_default}
use Rattle.configuration.specs.Configuration.{compression, compression_if_present, parameter, each_parameter, parameters, parameters_if_present, data_if_present, group, each_group, groups, parameters_and_groups}
use Rattle.metadata.specs.Metadata.{configuration_present, metadata_configuration}
use Rattle.metadata.specs.Entry.{metadata_reading}
use Rattle.laws.proofs.Named.{escaped_then}
use Rattle.known_names.specs.Known.{Known, KnownNames, AllKnown}
use Rattle.known_names.proofs.Words.{Begun, firsts, thirds, known_leaf, begun_metadata, begun_compression, begun_parameters, begun_groups, known_names}
use Rattle.known_names.proofs.Numbers.{own_words, call_known}
use Rattle.known_names.proofs.Compression.{metadata_compression_known}
use Rattle.known_names.proofs.Renderer.{renderer_data_known}
use Rattle.known_names.proofs.Global.{metadata_global_parameter_known}

metadata_number_known : (name : ℕ) → Known name → KnownNames (metadata_number name)
unfolding metadata_number metadata_esc
metadata_number_known name h = search known_names

compression_known : KnownNames compression
unfolding compression thirds
compression_known = search (known_names, begun_compression, metadata_compression_known)

compression_if_present_known : KnownNames compression_if_present
unfolding compression_if_present thirds
compression_if_present_known = search (known_names, begun_metadata, compression_known)

configuration_present_known : KnownNames configuration_present
unfolding configuration_present thirds
configuration_present_known = search (known_names, begun_metadata)

-- the parameters of the whole
parameter_known : (i : ℕ) → i < firsts 6 → KnownNames (parameter i)
unfolding parameter metadata_esc thirds
parameter_known i h = let b = begun_parameters i h in search (known_names, metadata_global_parameter_known)

parameters_known : KnownNames parameters
unfolding parameters each_parameter metadata_esc firsts thirds
parameters_known = search (known_names, begun_metadata, parameter_known)

parameters_if_present_known : KnownNames parameters_if_present
unfolding parameters_if_present thirds
parameters_if_present_known = search (known_names, begun_metadata, parameters_known)

-- a group
module _ (q : ℕ) (b : Begun (7 ∷ []) 1 q) where
  both_parameters_known : KnownNames (both_parameters q)
  unfolding both_parameters second_parameter thirds
  both_parameters_known = search (known_names, metadata_number_known)

  component_parameters_known : (type : ℕ) → KnownNames (component_parameters q type)
  unfolding component_parameters thirds
  component_parameters_known type = search (known_names, metadata_number_known, both_parameters_known)

  component_reference_known : KnownNames (component_reference q)
  unfolding component_reference thirds
  component_reference_known = search (known_names, metadata_number_known, component_parameters_known)

  channel_indices_known : (n : ℕ) → n ≤ 1166 → KnownNames (channel_indices q n)
  unfolding channel_indices each_channel_index thirds
  channel_indices_known n h = search (known_names, metadata_number_known)

  channels_known : KnownNames (channels q)
  unfolding channels metadata_esc thirds
  channels_known =
      escaped_then _ _ _ (known_leaf q leaf.channel_count_minus_one b refl)
      (λ n l. let few : n + 1 ≤ 1166 = omega arith in search (known_names, metadata_number_known, channel_indices_known))

  component_known : KnownNames (component q)
  unfolding component thirds
  component_known = search (known_names, component_reference_known, channels_known)

  component_unless_default_known : KnownNames (component_unless_default q)
  unfolding component_unless_default thirds
  component_unless_default_known = search (known_names, component_known)

group_known : (i : ℕ) → i < firsts 7 → KnownNames (group i)
unfolding group data_if_present firsts thirds
group_known i h = let b = begun_groups i h in search (known_names, metadata_number_known, component_unless_default_known, renderer_data_known)

groups_known : KnownNames groups
unfolding groups each_group metadata_esc firsts thirds
groups_known = search (known_names, begun_metadata, group_known)

metadata_configuration_known : KnownNames metadata_configuration
unfolding metadata_configuration parameters_and_groups
metadata_configuration_known = search (known_names, compression_if_present_known, configuration_present_known, parameters_if_present_known, groups_known)

pub metadata_known : (i : Input) (offset : ℕ) → AllKnown (metadata_reading i offset)
metadata_known i offset = call_known i 0 offset (own_words true) (λ _. metadata_configuration_known)
