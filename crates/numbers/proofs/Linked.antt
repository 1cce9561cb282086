-- A program that has this crate's table, and the code of what the crate calls, has the code of these functions: for the crate `linked`.
use Rattle.rules.proofs.Table.{HasAt}
use Rattle.numbers.proofs.TheLink.{table, Below, linked-numbers::put_meaning}
use Rattle.numbers.proofs.put_meaning.Symbol.{code as put_meaning_code}

pub put_meaning : HasAt "numbers" table Below put_meaning_code
put_meaning = linked-numbers::put_meaning
