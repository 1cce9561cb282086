use Rattle.show_header.specs.Header.{offset_of}
use borrow.Author.Rules.{rules}
use Rattle.show_header.proofs.offset_of.Goals as goal

pub returns : goal.returns
unfolding offset_of
returns c = search rules
