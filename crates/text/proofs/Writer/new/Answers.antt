use Rattle.std.proofs.Common.{rules}
use Rattle.text.proofs.Writer.new.Goals as goal

pub returns : goal.returns
returns c = search rules
