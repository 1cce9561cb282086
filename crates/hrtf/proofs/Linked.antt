-- A program that has this crate's table, and the code of what the crate calls, has the code of these functions: for the crate `linked`.
use Rattle.rules.proofs.Table.{HasAt}
use Rattle.hrtf.proofs.TheLink.{table, Below, linked-hrtf::hrtf}
use Rattle.hrtf.proofs.hrtf.Symbol.{code as hrtf_code}

pub hrtf : HasAt "hrtf" table Below hrtf_code
hrtf = linked-hrtf::hrtf
