-- Every row holds, by computing it.
use mathlib.Core.Path.{◌≡◌, refl}
use mathlib.Core.Bool.{true}
use lib.Ieee.{of_bits, add, lt, eq}
use Rattle.bits.specs.Bits.{bit_at, bits_at}
use Rattle.rules.specs.Rule.{◌>>=◌, position, end, bits, skip, set_end, field}
use Rattle.rules.specs.Reading.{reading}
use Rattle.rules.specs.Derived.{take, flag, parts, escaped, passive_bits, passive_values, each, fold, choose, demand, remaining, count, drc_count, entry}
use Rattle.extensions.specs.Extensions as e
use Rattle.coordinates.specs.Coordinates.{coordinate_values}
use Rattle.position.specs.Position as p
use Rattle.ranks.specs.Rank.{climb, judge, verdict, largest_up_to}
use Rattle.validation.specs.Validation.{validate_graph}
use Rattle.positions.specs.Positions.{updated_position, position_at, positions}
use Rattle.scene.specs.Scene.{scene_fields, scene_graph}
use Rattle.update.specs.Update.{update_fields, graph_update, all_shaped}
use Rattle.probability.specs.Probability.{add_float, floats}
use Rattle.common_resources.specs.Common.{number}
use Rattle.lzw.specs.Lzw.{lzw, lzw_widths}
use Rattle.compression.specs.Compression.{contents, metadata_compression}
use Rattle.matrix.specs.Matrix as m
use Rattle.renderer.specs.Renderer as r
use Rattle.headphones.specs.Headphones as h
use Rattle.global.specs.Global.{metadata_global_parameter}
use Rattle.component.specs.Component.{metadata_esc, metadata_number, component_unless_default}
use Rattle.configuration.specs.Configuration as c
use Rattle.metadata.specs.Metadata.{configuration_present, metadata_configuration}
use Rattle.text.specs.Text.{ascii, decimal_within, decimal, line}
use Rattle.book.specs.Step.{book_told, book_state}
use Rattle.book.specs.Spare.{spare, part_reading, part_graph}
use Rattle.book.specs.Book.{book_scene, book_reading, scene_step, update_step, settled}
use Rattle.show_header.specs.Header.{part_count, offset_of, end_of, part_of, in_order, is_sound, file_question}
use Rattle.show_parts.specs.Parts.{packets}
use Rattle.show_lines.specs.Lines.{part_line, position_line, position_lines, deepest_line}
use Rattle.show.specs.Show.{part_lines, updates_text, rest_text, parts_text, show_text}
use Rattle.text.specs.Table as t
use Rattle.name_table.specs.Table.{blocks, leaves}
use Rattle.name_row.specs.Row.{character, indexed}
use Rattle.name_words.specs.NameText.{block_text, leaf_text, name_text}
use Rattle.numbers.specs.Meaning.{meanings, up_to_bar, meaning}
use Rattle.part_fields.specs.Part.{shapes_before, update_listed, sound_listed, part_listed}
use Rattle.field_text.specs.FieldText.{place_text, value_text}
use Rattle.field_lines.specs.FieldLine.{field_line}
use Rattle.outcome_lines.specs.OutcomeLine.{end_line, outcome_text}
use Rattle.listing.specs.Listing.{field_lines}
use Rattle.examples.specs.Rows.{part0, AllHold, rows}

pub all_rows : AllHold rows
unfolding bit_at bits_at ◌>>=◌ position end bits skip set_end field reading take flag parts escaped passive_bits passive_values each fold choose demand remaining count drc_count entry p.dynamics p.precisions p.header p.changed p.new_parent p.parent p.range p.flag_unless coordinate_values p.coordinates p.coordinates_if_present p.rotation_values p.rotation e.extension_body e.extension e.extensions e.extensions_if_present p.before_range p.after_range p.position climb judge verdict largest_up_to validate_graph updated_position position_at positions scene_fields scene_graph update_fields graph_update all_shaped book_told book_state spare part_reading part_graph book_scene book_reading scene_step update_step settled ascii decimal_within decimal part_count offset_of end_of part_of in_order is_sound file_question line part_line part_lines position_line position_lines deepest_line packets updates_text rest_text parts_text show_text t.row blocks leaves character indexed block_text leaf_text name_text meanings up_to_bar meaning shapes_before update_listed sound_listed part_listed place_text value_text field_line end_line outcome_text field_lines number lzw lzw_widths contents metadata_compression m.coefficient_bits m.matrix_coefficients m.matrix r.renderer_parameter r.parameter r.each_parameter r.renderer_data h.channels h.padding h.padded_channels h.headphone_channels h.headphones metadata_global_parameter metadata_esc metadata_number component_unless_default c.compression c.compression_if_present c.parameter c.each_parameter c.parameters c.parameters_if_present c.data_if_present c.group c.each_group c.groups c.parameters_and_groups configuration_present metadata_configuration add_float floats of_bits add lt eq
all_rows = (refl, (refl, (refl, (refl, (refl, (refl, (refl, (refl, (refl, (refl, (refl, (refl, (refl, (refl, (refl, (refl, (refl, (refl, (refl, (refl, (refl, (refl, (refl, (refl, (refl, (refl, tt))))))))))))))))))))))))))

-- nothing follows the scene in part 0 of the show
pub part0_whole : spare part0 48 ≡ true
unfolding spare bits_at
part0_whole = refl
