use borrow.Author.Rules.{rules}
use native.Mathlib.Omega.{arith}
use Rattle.text.proofs.Writes.{lent_fits, lent_lined}
use Rattle.outcome_lines.proofs.Room.{outcome_most}
use Rattle.outcome_lines.proofs.outcome_line.Goals as goal

pub put_outcome-requires : goal.put_outcome-requires
put_outcome-requires c = lent_fits c.new-writer.ensures _ (omega (arith, outcome_most c.args.answer, c.told-line))

pub returns : goal.returns
returns c = rw c.length.ensures (lent_lined c.new-writer.ensures c.put_outcome.ensures (outcome_most c.args.answer) (search rules))
