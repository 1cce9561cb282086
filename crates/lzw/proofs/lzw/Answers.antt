use Rattle.parser.proofs.Laws.{readings}
use Rattle.lzw.specs.Lzw.{lzw}
use Rattle.lzw.proofs.lzw.Goals as goal

pub returns : goal.returns
unfolding lzw
returns c = search readings depth 14

pub returns-2 : goal.returns-2
unfolding lzw
returns-2 c = search readings depth 14

pub returns-3 : goal.returns-3
unfolding lzw
returns-3 c = search readings depth 14
