-- A program that is linked of these crates has the code of all that the claims speak of: W is its crates, each with the table of its
-- code, which Rattle makes, and `linked` the environment of that program.
use mathlib.Core.Path.{refl}
use mathlib.Core.List.{[], ◌∷◌}
use mathlib.Core.Bool.{true}
use lib.Chars.{codes}
use prog.Linked as program
use prog.Linked.{in_world}
use prog.LinkedThreads.{HasT, tie_t, tie_t-follows, tie_t-threads, has-wired_t}
use prog.Routine.{Env}
use prog.Wired.{Code, Wired}
use Rattle.bits.proofs.Linked as in_bits
use Rattle.rules.proofs.Linked as in_rules
use Rattle.parser.proofs.Linked as in_parser
use Rattle.extensions.proofs.Linked as in_extensions
use Rattle.coordinates.proofs.Linked as in_coordinates
use Rattle.position.proofs.Linked as in_position
use Rattle.position_alone.proofs.Linked as in_position_alone
use Rattle.ranks.proofs.Linked as in_ranks
use Rattle.validation.proofs.Linked as in_validation
use Rattle.positions.proofs.Linked as in_positions
use Rattle.scene.proofs.Linked as in_scene
use Rattle.update.proofs.Linked as in_update
use Rattle.lent.proofs.Linked as in_lent
use Rattle.probability.proofs.Linked as in_probability
use Rattle.code_tables.proofs.Linked as in_code_tables
use Rattle.lzw.proofs.Linked as in_lzw
use Rattle.compression.proofs.Linked as in_compression
use Rattle.common_resources.proofs.Linked as in_common
use Rattle.default_position.proofs.Linked as in_default_position
use Rattle.bands.proofs.Linked as in_bands
use Rattle.radiation.proofs.Linked as in_radiation
use Rattle.matrix.proofs.Linked as in_matrix
use Rattle.scene_reverb.proofs.Linked as in_scene_reverb
use Rattle.renderer_kinds.proofs.Linked as in_renderer_kinds
use Rattle.renderer.proofs.Linked as in_renderer
use Rattle.headphones.proofs.Linked as in_headphones
use Rattle.hrtf.proofs.Linked as in_hrtf
use Rattle.speakers.proofs.Linked as in_speakers
use Rattle.global.proofs.Linked as in_global
use Rattle.component.proofs.Linked as in_component
use Rattle.configuration.proofs.Linked as in_configuration
use Rattle.metadata.proofs.Linked as in_metadata
use Rattle.text.proofs.Linked as in_text
use Rattle.name_table.proofs.Linked as in_name_table
use Rattle.name_row.proofs.Linked as in_name_row
use Rattle.name_words.proofs.Linked as in_name_words
use Rattle.numbers.proofs.Linked as in_numbers
use Rattle.field_text.proofs.Linked as in_field_text
use Rattle.field_lines.proofs.Linked as in_field_lines
use Rattle.outcome_lines.proofs.Linked as in_outcome_lines
use Rattle.exported.proofs.Linked as in_exported
use Rattle.gateway.proofs.Linked as in_gateway
use Rattle.show_header.proofs.Linked as in_show_header
use Rattle.show_parts.proofs.Linked as in_show_parts
use Rattle.show_lines.proofs.Linked as in_show_lines
use Rattle.show.proofs.Linked as in_show
use Rattle.part_fields.proofs.Linked as in_part
use Rattle.field_lines.proofs.field_line.Symbol.{code as field_code}
use Rattle.outcome_lines.proofs.outcome_line.Symbol.{code as outcome_code}
use Rattle.show.proofs.show.Symbol.{code as show_code}
use Rattle.runs.specs.Sent.{Variant, plain, exported as as_exported}
use Rattle.runs.specs.Scene.{scene_code}
use Rattle.runs.specs.Update.{Form, by_value, lent as as_lent, update_code}
use Rattle.printed_runs.specs.Line.{Line, of_field, of_outcome, line_code}
use Rattle.claims.specs.Calls.{HasCode}
use Rattle.printed_claims.specs.Listing.{HasListingCode}

-- The environment γ has the code of what demand 3 speaks of, of the show, and of what `scene-fields` calls.
pub record HasAllCode (γ : Env) : Type 0 where
  pub readings : HasCode γ
  pub show : Wired γ show_code
  pub listing : HasListingCode γ

module _ (γ : Env) where
  each_scene : Wired γ (scene_code plain) → Wired γ (scene_code as_exported) → (v : Variant) → Wired γ (scene_code v)
  each_scene p q plain = p
  each_scene p q as_exported = q

  each_update : Wired γ (update_code by_value) → Wired γ (update_code (as_lent plain)) → Wired γ (update_code (as_lent as_exported)) →
      (f : Form) → Wired γ (update_code f)
  each_update p q r by_value = p
  each_update p q r (as_lent plain) = q
  each_update p q r (as_lent as_exported) = r

  each_line : Wired γ field_code → Wired γ outcome_code → (x : Line) → Wired γ (line_code x)
  each_line p q (of_field share words i) = p
  each_line p q (of_outcome answer) = q

-- what is shown of the functions that a crate calls, one after another, as its `Below` has them
abbrev ◌&◌ : {A B : Type 0} → A → B → A × B
a & b = (a, b)

infixr 4 ◌&◌
pub linked : (γ : Env) × HasAllCode γ
linked =
    let W : program.World =
    (codes "bits", _) ∷ (codes "rules", _) ∷ (codes "parser", _) ∷ (codes "extensions", _) ∷ (codes "coordinates", _) ∷
    (codes "position", _) ∷ (codes "position_alone", _) ∷ (codes "ranks", _) ∷ (codes "validation", _) ∷ (codes "positions", _) ∷
    (codes "scene", _) ∷ (codes "update", _) ∷ (codes "lent", _) ∷ (codes "probability", _) ∷ (codes "code_tables", _) ∷
    (codes "lzw", _) ∷ (codes "compression", _) ∷ (codes "common_resources", _) ∷ (codes "default_position", _) ∷ (codes "bands", _) ∷
    (codes "radiation", _) ∷ (codes "matrix", _) ∷ (codes "scene_reverb", _) ∷ (codes "renderer_kinds", _) ∷ (codes "renderer", _) ∷
    (codes "headphones", _) ∷ (codes "hrtf", _) ∷ (codes "speakers", _) ∷ (codes "global", _) ∷ (codes "component", _) ∷
    (codes "configuration", _) ∷ (codes "metadata", _) ∷ (codes "text", _) ∷ (codes "name_table", _) ∷ (codes "name_row", _) ∷
    (codes "name_words", _) ∷ (codes "numbers", _) ∷ (codes "field_text", _) ∷ (codes "field_lines", _) ∷
    (codes "outcome_lines", _) ∷ (codes "exported", _) ∷ (codes "gateway", _) ∷ (codes "show_header", _) ∷ (codes "show_parts", _) ∷
    (codes "show_lines", _) ∷ (codes "show", _) ∷ (codes "part_fields", _) ∷ [] in
    let bits_read = in_bits.read W refl tt in
    let rules_field_at = in_rules.field_at W refl tt in
    let rules_field_value_kind = in_rules.field_value_kind W refl tt in
    let rules_field_value_word = in_rules.field_value_word W refl tt in
    let rules_outcome_is_read = in_rules.outcome_is_read W refl tt in
    let rules_outcome_from_reason = in_rules.outcome_from_reason W refl tt in
    let rules_outcome_from_result = in_rules.outcome_from_result W refl tt in
    let rules_reason_number = in_rules.reason_number W refl tt in
    let parser_below = bits_read & rules_field_value_kind & rules_field_value_word & rules_outcome_from_result & tt in
    let parser_answer = in_parser.parser_answer W refl parser_below in
    let parser_count = in_parser.parser_count W refl parser_below in
    let parser_drc_count = in_parser.parser_drc_count W refl parser_below in
    let parser_each = in_parser.parser_each W refl parser_below in
    let parser_end = in_parser.parser_end W refl parser_below in
    let parser_entry = in_parser.parser_entry W refl parser_below in
    let parser_escaped = in_parser.parser_escaped W refl parser_below in
    let parser_flag = in_parser.parser_flag W refl parser_below in
    let parser_if_flag = in_parser.parser_if_flag W refl parser_below in
    let parser_label = in_parser.parser_label W refl parser_below in
    let parser_new = in_parser.parser_new W refl parser_below in
    let parser_passive_bits = in_parser.parser_passive_bits W refl parser_below in
    let parser_passive_values = in_parser.parser_passive_values W refl parser_below in
    let parser_position = in_parser.parser_position W refl parser_below in
    let parser_set_end = in_parser.parser_set_end W refl parser_below in
    let parser_take = in_parser.parser_take W refl parser_below in
    let parser_unless_flag = in_parser.parser_unless_flag W refl parser_below in
    let extensions_if_present = in_extensions.extensions_if_present W refl (parser_if_flag & parser_passive_bits & parser_take & tt) in
    let coordinates_below = parser_passive_values & tt in
    let coordinates_coordinate_values = in_coordinates.coordinate_values W refl coordinates_below in
    let coordinates_width = in_coordinates.width W refl coordinates_below in
    let position_below =
    coordinates_coordinate_values & coordinates_width & extensions_if_present & parser_flag & parser_passive_values & parser_take &
    tt in
    let position_syntax_default = in_position.position_syntax_default W refl position_below in
    let position_syntax_is_shaped = in_position.position_syntax_is_shaped W refl position_below in
    let position_position = in_position.position W refl position_below in
    let position_alone_read_position = in_position_alone.read_position W refl
    (parser_answer & parser_entry & parser_new & position_syntax_is_shaped & position_position & tt) in
    let ranks_judge = in_ranks.judge W refl tt in
    let ranks_larger = in_ranks.larger W refl tt in
    let ranks_rank = in_ranks.rank W refl tt in
    let validation_below = parser_answer & ranks_judge & rules_outcome_from_reason & tt in
    let validation_graph_ended = in_validation.graph_ended W refl validation_below in
    let validation_parents_of = in_validation.parents_of W refl validation_below in
    let validation_validate = in_validation.validate W refl validation_below in
    let validation_validated = in_validation.validated W refl validation_below in
    let positions_positions = in_positions.positions W refl (parser_flag & position_position & tt) in
    let scene_read_scene = in_scene.read_scene W refl
    (parser_drc_count & parser_entry & parser_new & position_syntax_default & positions_positions & validation_graph_ended &
    validation_validated & tt) in
    let update_below =
    parser_entry & parser_new & position_syntax_is_shaped & positions_positions & rules_outcome_is_read &
    validation_graph_ended & validation_validated & tt in
    let update_graph_update = in_update.graph_update W refl update_below in
    let update_undecided_read_update = in_update.undecided_read_update W refl update_below in
    let lent_graph_update = in_lent.graph_update W refl
    (position_syntax_default & position_alone_read_position & rules_outcome_is_read & update_undecided_read_update &
    validation_validate & tt) in
    let probability_below = parser_take & tt in
    let probability_is_finite = in_probability.is_finite W refl probability_below in
    let probability_probabilities = in_probability.probabilities W refl probability_below in
    let code_tables_tables = in_code_tables.tables W refl
    (parser_count & parser_each & parser_escaped & parser_take & probability_probabilities & tt) in
    let lzw_lzw = in_lzw.lzw W refl (parser_escaped & tt) in
    let compression_metadata_compression = in_compression.metadata_compression W refl
    (code_tables_tables & lzw_lzw & parser_end & parser_if_flag & parser_passive_bits & parser_position & parser_set_end &
    parser_take & probability_is_finite & tt) in
    let common_below =
    parser_escaped & parser_flag & parser_if_flag & parser_passive_bits & parser_passive_values & parser_take & parser_unless_flag & tt in
    let common_metadata_resource = in_common.metadata_resource W refl common_below in
    let common_metadata_reverb = in_common.metadata_reverb W refl common_below in
    let common_number = in_common.number W refl common_below in
    let common_number_if = in_common.number_if W refl common_below in
    let common_number_unless = in_common.number_unless W refl common_below in
    let common_payload = in_common.payload W refl common_below in
    let common_resource_parameters = in_common.resource_parameters W refl common_below in
    let common_values = in_common.values W refl common_below in
    let default_position_default_position = in_default_position.default_position W refl
    (position_syntax_default & position_position & tt) in
    let bands_below = common_number & parser_count & parser_each & parser_escaped & parser_flag & parser_passive_values & tt in
    let bands_bands = in_bands.bands W refl bands_below in
    let bands_count_plus_one = in_bands.count_plus_one W refl bands_below in
    let bands_renderer_precision = in_bands.renderer_precision W refl bands_below in
    let radiation_renderer_radiation = in_radiation.renderer_radiation W refl
    (bands_bands & bands_count_plus_one & bands_renderer_precision & common_metadata_resource & common_number & common_payload &
    parser_escaped & parser_flag & parser_passive_bits & parser_take & tt) in
    let matrix_matrix = in_matrix.matrix W refl
    (common_resource_parameters & parser_flag & parser_passive_bits & parser_take & tt) in
    let scene_reverb_scene_reverb = in_scene_reverb.scene_reverb W refl
    (common_metadata_resource & common_metadata_reverb & common_values & parser_take & tt) in
    let renderer_kinds_below =
    common_number & common_number_if & common_number_unless & common_values & parser_drc_count & parser_each & parser_flag & parser_if_flag &
    parser_passive_values & parser_take & parser_unless_flag & tt in
    let renderer_kinds_encoded_flag = in_renderer_kinds.encoded_flag W refl renderer_kinds_below in
    let renderer_kinds_encoded_if_one = in_renderer_kinds.encoded_if_one W refl renderer_kinds_below in
    let renderer_kinds_encoded_unless_zero = in_renderer_kinds.encoded_unless_zero W refl renderer_kinds_below in
    let renderer_kinds_flag_and_encoded = in_renderer_kinds.flag_and_encoded W refl renderer_kinds_below in
    let renderer_kinds_order_and_encoded = in_renderer_kinds.order_and_encoded W refl renderer_kinds_below in
    let renderer_kinds_regions_unless_all = in_renderer_kinds.regions_unless_all W refl renderer_kinds_below in
    let renderer_kinds_single_region_if_present = in_renderer_kinds.single_region_if_present W refl renderer_kinds_below in
    let renderer_kinds_spread = in_renderer_kinds.spread W refl renderer_kinds_below in
    let renderer_kinds_three_values = in_renderer_kinds.three_values W refl renderer_kinds_below in
    let renderer_data = in_renderer.renderer_data W refl
    (common_number & common_number_if & common_payload & default_position_default_position & matrix_matrix & parser_each & parser_escaped &
    radiation_renderer_radiation & renderer_kinds_encoded_flag & renderer_kinds_encoded_if_one &
    renderer_kinds_encoded_unless_zero & renderer_kinds_flag_and_encoded & renderer_kinds_order_and_encoded &
    renderer_kinds_regions_unless_all & renderer_kinds_single_region_if_present & renderer_kinds_spread &
    renderer_kinds_three_values & scene_reverb_scene_reverb & tt) in
    let headphones_headphones = in_headphones.headphones W refl
    (common_number & parser_each & parser_passive_bits & parser_position & parser_take & tt) in
    let hrtf_hrtf = in_hrtf.hrtf W refl (common_metadata_resource & common_number & common_number_if & parser_take & tt) in
    let speakers_labelled_layout = in_speakers.labelled_layout W refl
    (common_metadata_resource & common_number & common_number_unless & parser_drc_count & parser_each & parser_label & parser_passive_values &
    parser_take & tt) in
    let global_metadata_global_parameter = in_global.metadata_global_parameter W refl
    (common_metadata_resource & common_number & common_number_unless & common_payload & common_values &
    default_position_default_position & headphones_headphones & hrtf_hrtf & parser_each & parser_escaped & parser_flag & parser_passive_bits &
    parser_passive_values & parser_take & parser_unless_flag & speakers_labelled_layout & tt) in
    let component_below =
    parser_count & parser_each & parser_escaped & parser_flag & parser_if_flag & parser_take & parser_unless_flag & tt in
    let component_unless_default = in_component.component_unless_default W refl component_below in
    let component_metadata_esc = in_component.metadata_esc W refl component_below in
    let component_metadata_number = in_component.metadata_number W refl component_below in
    let configuration_below =
    component_unless_default & component_metadata_esc & component_metadata_number & compression_metadata_compression &
    global_metadata_global_parameter & parser_count & parser_each & parser_escaped & parser_if_flag & parser_take & renderer_data & tt in
    let configuration_compression_if_present = in_configuration.compression_if_present W refl configuration_below in
    let configuration_parameters_and_groups = in_configuration.parameters_and_groups W refl configuration_below in
    let metadata_read_metadata = in_metadata.read_metadata W refl
    (configuration_compression_if_present & configuration_parameters_and_groups & parser_answer & parser_entry & parser_flag &
    parser_new & tt) in
    let text_table_row_or_first = in_text.table_row_or_first W refl tt in
    let text_writer_length = in_text.writer_length W refl tt in
    let text_writer_new = in_text.writer_new W refl tt in
    let text_writer_put = in_text.writer_put W refl tt in
    let text_writer_put_byte = in_text.writer_put_byte W refl tt in
    let text_writer_put_decimal = in_text.writer_put_decimal W refl tt in
    let text_writer_put_last = in_text.writer_put_last W refl tt in
    let text_writer_put_number = in_text.writer_put_number W refl tt in
    let text_writer_put_two = in_text.writer_put_two W refl tt in
    let name_table_below = text_table_row_or_first & tt in
    let name_table_block_row = in_name_table.block_row W refl name_table_below in
    let name_table_leaf_row = in_name_table.leaf_row W refl name_table_below in
    let name_row_below = text_writer_put_byte & text_writer_put_decimal & tt in
    let name_row_in_range = in_name_row.in_range W refl name_row_below in
    let name_row_put_row = in_name_row.put_row W refl name_row_below in
    let name_row_stands_in = in_name_row.stands_in W refl name_row_below in
    let name_words_below =
    name_row_in_range & name_row_put_row & name_row_stands_in & name_table_block_row & name_table_leaf_row & text_writer_put_byte & tt in
    let name_words_known = in_name_words.known W refl name_words_below in
    let name_words_put_name = in_name_words.put_name W refl name_words_below in
    let numbers_put_meaning = in_numbers.put_meaning W refl (text_writer_put & text_table_row_or_first & tt) in
    let field_text_below =
    rules_field_value_word & text_writer_put & text_writer_put_decimal & text_writer_put_number & tt in
    let field_text_put_place = in_field_text.put_place W refl field_text_below in
    let field_text_put_value = in_field_text.put_value W refl field_text_below in
    let field_lines_field_line = in_field_lines.field_line W refl
    (field_text_put_place & field_text_put_value & name_words_known & name_words_put_name & rules_field_at & text_writer_length &
    text_writer_new & text_writer_put_byte & tt) in
    let outcome_lines_outcome_line = in_outcome_lines.outcome_line W refl
    (numbers_put_meaning & text_writer_length & text_writer_new & text_writer_put & text_writer_put_byte & text_writer_put_number &
    text_writer_put_two & tt) in
    let exported_exported_graph = in_exported.exported_graph W refl tt in
    let gateway_scene = in_gateway.gateway_scene W refl exported_exported_graph scene_read_scene in
    let gateway_update = in_gateway.gateway_update W refl exported_exported_graph lent_graph_update in
    let show_header_below = bits_read & tt in
    let show_header_show_file_new = in_show_header.show_file_new W refl show_header_below in
    let show_header_show_file_part = in_show_header.show_file_part W refl show_header_below in
    let show_header_show_file_part_count = in_show_header.show_file_part_count W refl show_header_below in
    let show_parts_below =
    bits_read & position_syntax_default & rules_outcome_is_read & rules_outcome_from_reason & scene_read_scene &
    show_header_show_file_part & update_undecided_read_update & tt in
    let show_parts_scene_part = in_show_parts.scene_part W refl show_parts_below in
    let show_parts_show_scene = in_show_parts.show_scene W refl show_parts_below in
    let show_parts_show_update = in_show_parts.show_update W refl show_parts_below in
    let show_parts_update_part = in_show_parts.update_part W refl show_parts_below in
    let show_lines_below =
    ranks_larger & ranks_rank & text_writer_put_last & text_writer_put_number & text_writer_put_two & validation_parents_of & tt in
    let show_lines_put_part = in_show_lines.put_part W refl show_lines_below in
    let show_lines_put_refused = in_show_lines.put_refused W refl show_lines_below in
    let show_lines_put_shapes = in_show_lines.put_shapes W refl show_lines_below in
    let show_show = in_show.show W refl
    (rules_outcome_is_read & rules_outcome_from_reason & rules_reason_number & show_header_show_file_new & show_header_show_file_part_count &
    show_lines_put_part & show_lines_put_refused & show_lines_put_shapes & show_parts_show_scene & show_parts_show_update & text_writer_length &
    text_writer_new & tt) in
    let part_read_part = in_part.read_part W refl
    (rules_outcome_is_read & rules_outcome_from_reason & show_header_show_file_new & show_header_show_file_part_count &
    show_parts_scene_part & show_parts_show_scene & show_parts_show_update & show_parts_update_part & tt) in
    let γ : Env = tie_t (in_world W) in
    let wired : (c : Code) → HasT (in_world W) true c → Wired γ c =
    has-wired_t (in_world W) γ (tie_t-follows (in_world W)) (tie_t-threads (in_world W)) in (
      γ,
      record {
        readings = record {
          scenes = each_scene γ (wired _ scene_read_scene) (wired _ gateway_scene);
          updates = each_update γ (wired _ update_graph_update) (wired _ lent_graph_update) (wired _ gateway_update);
        };
        show = wired _ show_show;
        listing = record {
          metadata = wired _ metadata_read_metadata;
          part = wired _ part_read_part;
          lines = each_line γ (wired _ field_lines_field_line) (wired _ outcome_lines_outcome_line);
        };
      },
    )
