-- A program that has this crate's table, and the code of what the crate calls, has the code of these functions: for the crate `linked`.
use Rattle.rules.proofs.Table.{HasAt}
use Rattle.name_words.proofs.TheLink.{table, Below, linked-name_words::known, linked-name_words::put_name}
use Rattle.name_words.proofs.known.Symbol.{code as known_code}
use Rattle.name_words.proofs.put_name.Symbol.{code as put_name_code}

pub known : HasAt "name_words" table Below known_code
known = linked-name_words::known

pub put_name : HasAt "name_words" table Below put_name_code
put_name = linked-name_words::put_name
