use Rattle.parser.proofs.Laws.{readings}
use Rattle.extensions.specs.Extensions.{extension_body}
use Rattle.extensions.proofs.extension_body.Goals as goal

pub returns : goal.returns
unfolding extension_body
returns c = search readings depth 14

pub returns-2 : goal.returns-2
unfolding extension_body
returns-2 c = search readings depth 14

pub returns-3 : goal.returns-3
unfolding extension_body
returns-3 c = search readings depth 14
