use mathlib.Core.Path.{◌≡◌}
use Rattle.parent_packet.specs.Shortest.{all_dynamic}
use Rattle.parent_writer.proofs.Turns.{dynamic_from}
use Rattle.parent_writer.proofs.all_dynamic.Given as goal

-- the positions passed may get their parents
abbrev pub invariant-loop-i : goal.invariant-loop-i
invariant-loop-i l = dynamic_from l.shapes l.parents l.i ≡ all_dynamic l.shapes l.parents
