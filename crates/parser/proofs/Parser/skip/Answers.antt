use mathlib.Core.Path.{refl}
use Rattle.parser.proofs.Steps.{skip_short, skip_read}
use Rattle.parser.proofs.Parser.skip.Goals as goal

pub returns-then-self-width : goal.returns-then-self-width
returns-then-self-width c = skip_short c.if-self-width.true

pub returns : goal.returns
returns c = skip_read c.if-self-width.false (record { bytes = refl; words = refl; recording = refl; fields = refl; position = refl; end = refl })
