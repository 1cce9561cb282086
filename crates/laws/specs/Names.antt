-- The parts of a name word, and the number and indices of each block.
use Rattle.std.specs.Prelude.{ℕ, ◌/◌, ◌%◌, ◌<◌, ◌^◌, ◌≡◌}
use Rattle.rules.specs.Name.{prefix}
use Rattle.rules.specs.Block as block

pub record Parts (leaf block i j k m word : ℕ) : Type 0 where
  pub small : word < 2 ^ 64
  pub leaf_back : word % 256 ≡ leaf
  pub block_back : word / 256 % 16 ≡ block
  pub first_back : word / 2 ^ 12 % 8192 ≡ i
  pub second_back : word / 2 ^ 25 % 8192 ≡ j
  pub third_back : word / 2 ^ 38 % 8192 ≡ k
  pub fourth_back : word / 2 ^ 51 ≡ m

pub record Blocks (i j : ℕ) : Type 0 where
  pub scene_graph : block.scene_graph ≡ prefix 1 0 0
  pub positions : block.positions i ≡ prefix 2 i 0
  pub metadata : block.metadata ≡ prefix 3 0 0
  pub compression : block.compression ≡ prefix 4 0 0
  pub tables : block.tables i ≡ prefix 5 i 0
  pub parameters : block.parameters i ≡ prefix 6 i 0
  pub groups : block.groups i ≡ prefix 7 i 0
  pub group_data : block.group_data i ≡ prefix 8 i 0
  pub data_parameters : block.data_parameters i j ≡ prefix 9 i j
