-- `metadata_configuration`: compression, the parameters of the whole, and groups. `q` is the word of a group.
use Rattle.std.specs.Prelude.{◌+◌}
use Rattle.rules.specs.Block as block
use Rattle.rules.specs.Leaf as leaf
use Rattle.rules.specs.Rule.{Rule, refused, ◌>>=◌, ◌>>◌}
use Rattle.rules.specs.Derived.{flag, demand}
use Rattle.configuration.specs.Configuration.{compression_if_present, parameters_and_groups}

-- `if !self.flag(configuration_present)? { .. }`
unfoldable pub configuration_present : Rule (Unit {0})
configuration_present = do
  there ← flag (block.metadata + leaf.configuration_present)
  demand there (refused 10)

unfoldable pub metadata_configuration : Rule (Unit {0})
metadata_configuration = do
  compression_if_present
  configuration_present
  parameters_and_groups
