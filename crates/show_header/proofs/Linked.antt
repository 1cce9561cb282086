-- A program that has this crate's table, and the code of what the crate calls, has the code of these functions: for the crate `linked`.
use Rattle.rules.proofs.Table.{HasAt}
use Rattle.show_header.proofs.TheLink.{table, Below, linked-show_header::ShowFile::new, linked-show_header::ShowFile::part, linked-show_header::ShowFile::part_count}
use Rattle.show_header.proofs.ShowFile.new.Symbol.{code as show_file_new_code}
use Rattle.show_header.proofs.ShowFile.part.Symbol.{code as show_file_part_code}
use Rattle.show_header.proofs.ShowFile.part_count.Symbol.{code as show_file_part_count_code}

pub show_file_new : HasAt "show_header" table Below show_file_new_code
show_file_new = linked-show_header::ShowFile::new

pub show_file_part : HasAt "show_header" table Below show_file_part_code
show_file_part = linked-show_header::ShowFile::part

pub show_file_part_count : HasAt "show_header" table Below show_file_part_count_code
show_file_part_count = linked-show_header::ShowFile::part_count
