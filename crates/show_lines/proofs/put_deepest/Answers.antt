use Rattle.text.specs.Text.{ascii, line}
use borrow.Author.Rules.{rules}
use Rattle.show_lines.specs.Lines.{deepest_line}
use Rattle.show_lines.proofs.put_deepest.Goals as goal

pub put_last-requires : goal.put_last-requires
unfolding line ascii deepest_line
put_last-requires c = search rules

pub returns : goal.returns
unfolding line ascii deepest_line
returns c = search rules
