use Rattle.std.proofs.Common.{◌≡◌, ◌≤◌, IfErr}
use Rattle.rules.specs.Answer.{ended_as}
use Rattle.script.proofs.operations.Given as goal

-- a reading that had ended has not moved, and no more fields are counted than may be
abbrev pub invariant-loop : goal.invariant-loop
invariant-loop g l =
    IfErr l.fn.begun (λ _. (l.parser ≡ l.initial.parser) × (l.reading ≡ ended_as l.fn.begun)) × (l.initial.parser.fields ≤ 16384 → l.parser.fields ≤ 16384)
