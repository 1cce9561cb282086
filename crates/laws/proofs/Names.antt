-- A name word has its parts back: the template and the four indices. And each block's word is that of its number.
use Prim.Native.Nat.{ℕ, ◌<◌}
use native.Mathlib.Omega.{arith}
use Rattle.rules.specs.Name.{prefix, named}
use Rattle.laws.specs.Names.{Parts, Blocks}

pub parts_back : (leaf block i j k m : ℕ) → leaf < 256 → block < 16 → i < 8192 → j < 8192 → k < 8192 → m < 8192 →
    Parts leaf block i j k m (named (prefix block i j) leaf k m)
parts_back leaf block i j k m a b c d e f =
    record {
      small = omega arith;
      leaf_back = omega arith;
      block_back = omega arith;
      first_back = omega arith;
      second_back = omega arith;
      third_back = omega arith;
      fourth_back = omega arith;
    }

pub blocks : (i j : ℕ) → Blocks i j
blocks i j = record {
  scene_graph = omega arith;
  positions = omega arith;
  metadata = omega arith;
  compression = omega arith;
  tables = omega arith;
  parameters = omega arith;
  groups = omega arith;
  group_data = omega arith;
  data_parameters = omega arith;
}
