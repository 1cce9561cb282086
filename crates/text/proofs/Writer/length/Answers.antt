use Rattle.std.proofs.Common.{rules}
use Rattle.text.proofs.Writer.length.Goals as goal

pub returns : goal.returns
returns c = search rules
