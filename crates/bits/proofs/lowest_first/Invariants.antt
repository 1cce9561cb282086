use mathlib.Core.Path.{◌≡◌}
use Rattle.bits.specs.Words.{lowest_first}
use Rattle.bits.proofs.lowest_first.Given as goal

-- the word is that of the bytes passed
abbrev pub invariant-loop-n : goal.invariant-loop-n
invariant-loop-n l = l.word ≡ lowest_first l.bytes l.q l.n
