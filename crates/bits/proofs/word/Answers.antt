use mathlib.Core.Path.{ap, ◌∙◌}
use Rattle.bits.specs.Words.{swapped}
use Rattle.bits.proofs.Words.{swapped_back}
use Rattle.bits.proofs.word.Goals as goal

pub returns : goal.returns
returns c = c.swapped.ensures ∙ ap (swapped 8) c.lowest_first.ensures ∙ swapped_back c.args.bytes.now c.args.q 8
