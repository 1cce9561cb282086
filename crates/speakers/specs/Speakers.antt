-- Kind 9 of the parameters of a whole configuration: a layout of speakers.
use Rattle.std.specs.Prelude.{ℕ, ◌+◌, ◌*◌, [], ◌∷◌}
use Rattle.rules.specs.Name.{third, fourth}
use Rattle.rules.specs.Leaf as leaf
use Rattle.rules.specs.Rule.{Rule, ◌>>=◌, ◌>>◌}
use Rattle.rules.specs.Derived.{take, passive_values, label, drc_count, repeat}
use Rattle.common_resources.specs.Common.{number, number_unless, metadata_resource}

-- kind 9: a resource, a label, and speakers, of which each is asked for 33 bits; `q` is the word of one
unfoldable pub speaker_type : ℕ → Rule (Unit {0})
speaker_type q = do
  number (q + leaf.speaker_value_encoded) 7
  number (q + leaf.speaker_type) 3

unfoldable pub speaker : ℕ → Rule (Unit {0})
speaker q = do
  passive_values (q + leaf.speaker_encoded) fourth (4 ∷ 9 ∷ 8 ∷ [])
  number_unless (q + leaf.speaker_default_distance) (q + leaf.speaker_distance_encoded) 4
  speaker_type q

unfoldable pub speakers : ℕ → ℕ → Rule (Unit {0})
speakers p n = repeat (λ i. speaker (p + third * i)) n

unfoldable pub layout : ℕ → Rule (Unit {0})
layout p = do
  take (p + leaf.layout_encoded) 4
  n ← drc_count (p + leaf.speaker_count) 8 33
  speakers p n

unfoldable pub labelled_layout : ℕ → Rule (Unit {0})
labelled_layout p = do
  metadata_resource (p + leaf.resource)
  label (p + leaf.label)
  layout p
