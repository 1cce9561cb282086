use Rattle.digits.proofs.Digits.{Begun}
use Rattle.digits.proofs.digits_number.Given as goal

-- the characters before the index are digits, and the value
abbrev pub invariant-loop-c : goal.invariant-loop-c
invariant-loop-c l = Begun l.text l.c-index l.value
