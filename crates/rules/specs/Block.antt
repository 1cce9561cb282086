-- What the names of each block begin with (docs/FIELDS.md): `prefix`, with the indices that its text has.
use Rattle.std.specs.Prelude.{ℕ, ◌+◌, ◌*◌}
use Rattle.rules.specs.Name.{first, second}

-- `ancillary.scene_graph`
abbrev pub scene_graph : ℕ
scene_graph = 256 * 1

-- `ancillary.scene_graph.positions[i]`
abbrev pub positions : ℕ → ℕ
positions i = 256 * 2 + first * i

-- `ancillary.metadata`
abbrev pub metadata : ℕ
metadata = 256 * 3

-- `ancillary.metadata.compression`
abbrev pub compression : ℕ
compression = 256 * 4

-- `ancillary.metadata.compression.tables[i]`
abbrev pub tables : ℕ → ℕ
tables i = 256 * 5 + first * i

-- `ancillary.metadata.parameters[i]`
abbrev pub parameters : ℕ → ℕ
parameters i = 256 * 6 + first * i

-- `ancillary.metadata.groups[i]`
abbrev pub groups : ℕ → ℕ
groups i = 256 * 7 + first * i

-- `ancillary.metadata.groups[i].data`
abbrev pub group_data : ℕ → ℕ
group_data i = 256 * 8 + first * i

-- `ancillary.metadata.groups[i].data.parameters[j]`
abbrev pub data_parameters : ℕ → ℕ → ℕ
data_parameters i j = 256 * 9 + first * i + second * j
