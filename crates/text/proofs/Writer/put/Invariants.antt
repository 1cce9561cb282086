use lib.ListN.{drop}
use Rattle.text.proofs.Writes.{Left}
use Rattle.text.proofs.Writer.put.Given as goal

-- the rest of the text is still to be put
abbrev pub invariant-loop-byte : goal.invariant-loop-byte
invariant-loop-byte l = Left l.text l.initial.self (drop l.byte-index l.text) l.self
