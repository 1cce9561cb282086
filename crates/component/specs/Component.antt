-- The component of a group. `q` is the word that the names of a group begin with.
use Rattle.std.specs.Prelude.{ℕ, ◌+◌, ◌*◌, [], ◌∷◌}
use Rattle.rules.specs.Name.{third}
use Rattle.rules.specs.Leaf as leaf
use Rattle.rules.specs.Rule.{Rule, done, ◌>>=◌, ◌>>◌, pick}
use Rattle.rules.specs.Derived.{◌⇒◌, choose, take, flag, escaped, invalid, count, repeat}

-- `metadata_esc`
unfoldable pub metadata_esc : ℕ → Rule ℕ
metadata_esc name = escaped name (4 ∷ 7 ∷ 10 ∷ [])

-- the same, where nothing depends on the number
unfoldable pub metadata_number : ℕ → Rule (Unit {0})
metadata_number name = do
  metadata_esc name
  done tt

-- `match self.take(component_type)? { .. }`
unfoldable pub second_parameter : ℕ → Rule (Unit {0})
second_parameter q = do
  there ← flag (q + leaf.parameter1_present)
  pick there (metadata_number (q + leaf.parameter1)) (done tt)

unfoldable pub both_parameters : ℕ → Rule (Unit {0})
both_parameters q = do
  metadata_number (q + leaf.parameter0)
  second_parameter q

unfoldable pub component_parameters : ℕ → ℕ → Rule (Unit {0})
component_parameters q type =
    choose type
    ((0 ∷ 2 ∷ 3 ∷ []) ⇒ metadata_number (q + leaf.parameter0)
    ∷ (1 ∷ 4 ∷ []) ⇒ both_parameters q
    ∷ [])
    (invalid 16)

unfoldable pub component_reference : ℕ → Rule (Unit {0})
component_reference q = do
  metadata_number (q + leaf.component_index)
  type ← take (q + leaf.component_type) 3
  component_parameters q type

-- the channels of a group: from a first one on, or each by its index
unfoldable pub each_channel_index : ℕ → ℕ → Rule (Unit {0})
each_channel_index q n = repeat (λ i. metadata_number (q + leaf.channel_indices + third * i)) n

unfoldable pub channel_indices : ℕ → ℕ → Rule (Unit {0})
channel_indices q n = do
  m ← count n 4
  each_channel_index q m

unfoldable pub channels : ℕ → Rule (Unit {0})
channels q = do
  n ← metadata_esc (q + leaf.channel_count_minus_one)
  contiguous ← flag (q + leaf.contiguous_channels)
  pick contiguous (metadata_number (q + leaf.first_channel)) (channel_indices q (n + 1))

-- `if !self.flag(default)? { .. }`
unfoldable pub component : ℕ → Rule (Unit {0})
component q = do
  reference ← flag (q + leaf.component_reference)
  pick reference (component_reference q) (channels q)

unfoldable pub component_unless_default : ℕ → Rule (Unit {0})
component_unless_default q = do
  default ← flag (q + leaf.default)
  pick default (done tt) (component q)
