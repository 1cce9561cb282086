-- A program that has this crate's table, and the code of what the crate calls, has the code of these functions: for the crate `linked`.
use Rattle.rules.proofs.Table.{HasAt}
use Rattle.parser.proofs.TheLink.{table, Below, linked-parser::Parser::answer, linked-parser::Parser::count, linked-parser::Parser::drc_count, linked-parser::Parser::each, linked-parser::Parser::end, linked-parser::Parser::entry, linked-parser::Parser::escaped, linked-parser::Parser::flag, linked-parser::Parser::if_flag, linked-parser::Parser::label, linked-parser::Parser::new, linked-parser::Parser::passive_bits, linked-parser::Parser::passive_values, linked-parser::Parser::position, linked-parser::Parser::set_end, linked-parser::Parser::take, linked-parser::Parser::unless_flag}
use Rattle.parser.proofs.Parser.answer.Symbol.{code as parser_answer_code}
use Rattle.parser.proofs.Parser.count.Symbol.{code as parser_count_code}
use Rattle.parser.proofs.Parser.drc_count.Symbol.{code as parser_drc_count_code}
use Rattle.parser.proofs.Parser.each.Symbol.{code as parser_each_code}
use Rattle.parser.proofs.Parser.end.Symbol.{code as parser_end_code}
use Rattle.parser.proofs.Parser.entry.Symbol.{code as parser_entry_code}
use Rattle.parser.proofs.Parser.escaped.Symbol.{code as parser_escaped_code}
use Rattle.parser.proofs.Parser.flag.Symbol.{code as parser_flag_code}
use Rattle.parser.proofs.Parser.if_flag.Symbol.{code as parser_if_flag_code}
use Rattle.parser.proofs.Parser.label.Symbol.{code as parser_label_code}
use Rattle.parser.proofs.Parser.new.Symbol.{code as parser_new_code}
use Rattle.parser.proofs.Parser.passive_bits.Symbol.{code as parser_passive_bits_code}
use Rattle.parser.proofs.Parser.passive_values.Symbol.{code as parser_passive_values_code}
use Rattle.parser.proofs.Parser.position.Symbol.{code as parser_position_code}
use Rattle.parser.proofs.Parser.set_end.Symbol.{code as parser_set_end_code}
use Rattle.parser.proofs.Parser.take.Symbol.{code as parser_take_code}
use Rattle.parser.proofs.Parser.unless_flag.Symbol.{code as parser_unless_flag_code}

pub parser_answer : HasAt "parser" table Below parser_answer_code
parser_answer = linked-parser::Parser::answer

pub parser_count : HasAt "parser" table Below parser_count_code
parser_count = linked-parser::Parser::count

pub parser_drc_count : HasAt "parser" table Below parser_drc_count_code
parser_drc_count = linked-parser::Parser::drc_count

pub parser_each : HasAt "parser" table Below parser_each_code
parser_each = linked-parser::Parser::each

pub parser_end : HasAt "parser" table Below parser_end_code
parser_end = linked-parser::Parser::end

pub parser_entry : HasAt "parser" table Below parser_entry_code
parser_entry = linked-parser::Parser::entry

pub parser_escaped : HasAt "parser" table Below parser_escaped_code
parser_escaped = linked-parser::Parser::escaped

pub parser_flag : HasAt "parser" table Below parser_flag_code
parser_flag = linked-parser::Parser::flag

pub parser_if_flag : HasAt "parser" table Below parser_if_flag_code
parser_if_flag = linked-parser::Parser::if_flag

pub parser_label : HasAt "parser" table Below parser_label_code
parser_label = linked-parser::Parser::label

pub parser_new : HasAt "parser" table Below parser_new_code
parser_new = linked-parser::Parser::new

pub parser_passive_bits : HasAt "parser" table Below parser_passive_bits_code
parser_passive_bits = linked-parser::Parser::passive_bits

pub parser_passive_values : HasAt "parser" table Below parser_passive_values_code
parser_passive_values = linked-parser::Parser::passive_values

pub parser_position : HasAt "parser" table Below parser_position_code
parser_position = linked-parser::Parser::position

pub parser_set_end : HasAt "parser" table Below parser_set_end_code
parser_set_end = linked-parser::Parser::set_end

pub parser_take : HasAt "parser" table Below parser_take_code
parser_take = linked-parser::Parser::take

pub parser_unless_flag : HasAt "parser" table Below parser_unless_flag_code
parser_unless_flag = linked-parser::Parser::unless_flag
