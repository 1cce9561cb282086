use Rattle.std.proofs.Common.{◌≤◌}
use Rattle.script.proofs.Operation.run.Given as goal

-- no more fields are counted than may be
abbrev pub invariant-loop : goal.invariant-loop
invariant-loop l = l.initial.parser.fields ≤ 16384 → l.parser.fields ≤ 16384
