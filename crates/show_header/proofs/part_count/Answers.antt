use Rattle.show_header.specs.Header.{part_count}
use borrow.Author.Rules.{rules}
use Rattle.show_header.proofs.part_count.Goals as goal

pub returns : goal.returns
unfolding part_count
returns c = search rules
