use Rattle.text.specs.Text.{ascii, line}
use borrow.Author.Rules.{rules}
use Rattle.show_lines.proofs.put_refused.Goals as goal

pub put_last-requires : goal.put_last-requires
unfolding line ascii
put_last-requires c = search rules

pub returns : goal.returns
unfolding line ascii
returns c = search rules
