use mathlib.Core.Path.{refl}
use Rattle.bits.proofs.Laws.{bits_lt}
use Rattle.parser.proofs.Steps.{bits_short, bits_read}
use Rattle.parser.proofs.Parser.read.Goals as goal

pub returns-then-self-width-clause-met : goal.returns-then-self-width-clause-met
returns-then-self-width-clause-met c = bits_short c.if-self-width.true

pub returns-clause-met : goal.returns-clause-met
returns-clause-met c = bits_read c.if-self-width.false c.read-value.ensures (record { bytes = refl; words = refl; recording = refl; fields = refl; position = refl; end = refl })

pub returns-clause-small : goal.returns-clause-small
returns-clause-small c = rw c.read-value.ensures (bits_lt _ _ _)
