-- Words and their texts: no index, one, and four of the greatest values; and words that are not known.
use mathlib.Core.Path.{◌≡◌, refl}
use mathlib.Core.Bool.{false}
use Rattle.rules.specs.Name.{named}
use Rattle.rules.specs.Block as block
use Rattle.rules.specs.Leaf as leaf
use Rattle.text.specs.Text.{ascii, decimal, decimal_within}
use Rattle.text.specs.Table.{row}
use Rattle.name_table.specs.Table.{blocks, leaves}
use Rattle.name_row.specs.Row.{in_range, stands_in, character, indexed}
use Rattle.name_words.specs.NameText.{known, block_text, leaf_text, name_text}

no_index : name_text (named block.scene_graph leaf.count 0 0) ≡ ascii "ancillary.scene_graph.count"
unfolding name_text block_text leaf_text indexed character decimal decimal_within row blocks leaves ascii
no_index = refl

two_indices : name_text (named (block.positions 62) leaf.extension_payload 31 0) ≡ ascii "ancillary.scene_graph.positions[62].extensions[31].payload"
unfolding name_text block_text leaf_text indexed character decimal decimal_within row blocks leaves ascii
two_indices = refl

four_indices : name_text (named (block.data_parameters 1164 127) leaf.band_encoded 581 1) ≡
    ascii "ancillary.metadata.groups[1164].data.parameters[127].bands[581].encoded[1]"
unfolding name_text block_text leaf_text indexed character decimal decimal_within row blocks leaves ascii
four_indices = refl

-- a leaf that stands in another block, an index past its range, and one that the text has no place for
other_block : known (named block.scene_graph leaf.polar 0 0) ≡ false
unfolding known stands_in in_range row blocks leaves ascii
other_block = refl

past_its_range : known (named (block.positions 63) leaf.polar 0 0) ≡ false
unfolding known stands_in in_range row blocks leaves ascii
past_its_range = refl

no_place : known (named (block.positions 0) leaf.polar 1 0) ≡ false
unfolding known stands_in in_range row blocks leaves ascii
no_place = refl
