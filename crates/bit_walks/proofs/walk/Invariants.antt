use mathlib.Core.Path.{◌≡◌}
use Rattle.bit_walks.specs.Walk.{sum_of}
use Rattle.bit_walks.proofs.walk.Given as goal

-- the sum so far is that of the reads passed
abbrev pub invariant-loop-i : goal.invariant-loop-i
invariant-loop-i g l = l.sum ≡ sum_of l.bytes l.i
