-- What a metadata configuration that is there holds.
use Rattle.std.specs.Prelude.{ℕ, ◌+◌, [], ◌∷◌, leb}
use Rattle.rules.specs.Block as block
use Rattle.rules.specs.Leaf as leaf
use Rattle.rules.specs.Rule.{Rule, done, refused, ◌>>=◌, ◌>>◌, pick}
use Rattle.rules.specs.Derived.{take, flag, escaped, demand, count, repeat}
use Rattle.compression.specs.Compression.{metadata_compression}
use Rattle.renderer.specs.Renderer.{renderer_data}
use Rattle.global.specs.Global.{metadata_global_parameter}
use Rattle.component.specs.Component.{metadata_esc, metadata_number, component_unless_default}

-- `if self.flag(compression_present)? { .. }`
unfoldable pub compression : Rule (Unit {0})
compression = do
  kind ← take (block.compression + leaf.type) 3
  size ← escaped (block.compression + leaf.bytes) (4 ∷ 8 ∷ 16 ∷ [])
  metadata_compression kind size

unfoldable pub compression_if_present : Rule (Unit {0})
compression_if_present = do
  there ← flag (block.metadata + leaf.compression_present)
  pick there compression (done tt)

-- `if self.flag(parameters_present)? { .. }`
unfoldable pub parameter : ℕ → Rule (Unit {0})
parameter i = do
  kind ← metadata_esc (block.parameters i + leaf.id)
  metadata_global_parameter (block.parameters i) kind

unfoldable pub each_parameter : ℕ → Rule (Unit {0})
each_parameter n = repeat parameter n

unfoldable pub parameters : Rule (Unit {0})
parameters = do
  n ← metadata_esc (block.metadata + leaf.parameter_count)
  demand (leb n 128) (refused 11)
  each_parameter n

unfoldable pub parameters_if_present : Rule (Unit {0})
parameters_if_present = do
  there ← flag (block.metadata + leaf.parameters_present)
  pick there parameters (done tt)

-- `if self.flag(data_present)? { .. }`
unfoldable pub data_if_present : ℕ → Rule (Unit {0})
data_if_present i = do
  there ← flag (block.groups i + leaf.data_present)
  pick there (renderer_data i) (done tt)

-- `for i in 0..count { .. }` over groups
unfoldable pub group : ℕ → Rule (Unit {0})
group i = do
  metadata_number (block.groups i + leaf.id)
  component_unless_default (block.groups i)
  data_if_present i

unfoldable pub each_group : ℕ → Rule (Unit {0})
each_group n = repeat group n

unfoldable pub groups : Rule (Unit {0})
groups = do
  n ← metadata_esc (block.metadata + leaf.group_count)
  m ← count n 6
  each_group m

unfoldable pub parameters_and_groups : Rule (Unit {0})
parameters_and_groups = do
  parameters_if_present
  groups
