use Rattle.std.proofs.Common.{rules}
use Rattle.text.proofs.Writer.put_byte.Goals as goal

pub returns : goal.returns
returns c = search rules
