-- A program that has this crate's table, and the code of what the crate calls, has the code of these functions: for the crate `linked`.
use Rattle.rules.proofs.Table.{HasAt}
use Rattle.lzw.proofs.TheLink.{table, Below, linked-lzw::lzw}
use Rattle.lzw.proofs.lzw.Symbol.{code as lzw_code}

pub lzw : HasAt "lzw" table Below lzw_code
lzw = linked-lzw::lzw
