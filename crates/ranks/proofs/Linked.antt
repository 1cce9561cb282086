-- A program that has this crate's table, and the code of what the crate calls, has the code of these functions: for the crate `linked`.
use Rattle.rules.proofs.Table.{HasAt}
use Rattle.ranks.proofs.TheLink.{table, Below, linked-ranks::judge, linked-ranks::larger, linked-ranks::rank}
use Rattle.ranks.proofs.judge.Symbol.{code as judge_code}
use Rattle.ranks.proofs.larger.Symbol.{code as larger_code}
use Rattle.ranks.proofs.rank.Symbol.{code as rank_code}

pub judge : HasAt "ranks" table Below judge_code
judge = linked-ranks::judge

pub larger : HasAt "ranks" table Below larger_code
larger = linked-ranks::larger

pub rank : HasAt "ranks" table Below rank_code
rank = linked-ranks::rank
