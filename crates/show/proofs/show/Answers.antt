use mathlib.Core.Path.{refl}
use native.Mathlib.Omega.{arith}
use Rattle.text.proofs.Writes.{lent_fits, lent_put}
use Rattle.show.proofs.Room.{show_enough}
use Rattle.show.proofs.show.Goals as goal

pub put_show-outcome-requires : goal.put_show-outcome-requires
put_show-outcome-requires c = lent_fits c.new-writer.ensures _ (omega (arith, show_enough c.args.file.now, c.told-text))

pub returns : goal.returns
returns c = record {
  outcome = c.put_show-outcome.ensures.outcome;
  position = refl;
  text = rw c.length.ensures (lent_put c.new-writer.ensures c.put_show-outcome.ensures.text);
  room = rw c.length.ensures c.put_show-outcome.new.writer.written_in;
}
