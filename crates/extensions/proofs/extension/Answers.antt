use Rattle.parser.proofs.Laws.{readings}
use Rattle.extensions.specs.Extensions.{extension}
use Rattle.extensions.proofs.extension.Goals as goal

pub returns : goal.returns
unfolding extension
returns c = search readings depth 14

pub returns-then-kind-eq0 : goal.returns-then-kind-eq0
unfolding extension
returns-then-kind-eq0 c = search readings depth 14

pub returns-2 : goal.returns-2
unfolding extension
returns-2 c = search readings depth 14

pub returns-3 : goal.returns-3
unfolding extension
returns-3 c = search readings depth 14
