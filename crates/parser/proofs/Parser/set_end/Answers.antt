use mathlib.Core.Path.{refl}
use Rattle.parser.proofs.Steps.{end_back, end_past, end_set}
use Rattle.parser.proofs.Parser.set_end.Goals as goal

pub returns-then-x-self : goal.returns-then-x-self
returns-then-x-self c = end_back c.if-x-self.true

pub returns-then-self-x : goal.returns-then-self-x
returns-then-self-x c = end_past c.if-x-self.false c.if-self-x.true

pub returns : goal.returns
returns c = end_set c.if-x-self.false c.if-self-x.false (record { bytes = refl; words = refl; recording = refl; fields = refl; position = refl; end = refl })
